-- A month at work, computed: one cell, and calls that meet every answer but 21; then tables that are not fresh, for the
-- largest total, 21, and a mark other than 1.
-- Assumes nothing.
use Rattle.std.specs.Prelude.{Result, Ok, Err}
use mathlib.Core.Path.{◌≡◌, refl}
use mathlib.Core.List.{List, [], ◌∷◌, ◌++◌}
use Prim.Native.Nat.{ℕ, ◌-◌, ◌^◌}
use lib.ListN.{set, replicate}
use Rattle.pixel.specs.declared.error.Error.TheVariants.{InvalidChannels, InvalidHour, InvalidCellCount, TotalTooLarge}
use Rattle.pixel.specs.Refusal.{ended_early}
use Rattle.pixel.specs.declared.types.Channels.{Channels}
use Rattle.pixel.specs.declared.types.Channels.TheVariants.{Rgb, Rgba}
use Rattle.pixel.specs.declared.types.ColorSpace.TheVariants.{Srgb}
use Rattle.pixel.specs.Colour.{slot_of}
use Rattle.header.specs.Header.{header_bytes, header_from, after_color_space, after_channels, header_of}
use Rattle.rules.specs.Bytes.{same_bytes, repeated}
use Rattle.rules.specs.Chunk.{chunk_from, chunk_at, colour_of, times_of, size_of}
use Rattle.rules.specs.Reading.{marker, closing, start_place, pixels_brought, pixel_after, place_after, bytes_of, move_by, move, reading, reading_into, after_wanted, after_header, whole_reading}
use Rattle.rules.specs.Decode.{decoder_stores, decoder_keeps, decoder_reads_rgba}
use Rattle.pixel.specs.declared.error.Error.{Error}
use Rattle.totals.specs.declared.Counted.{Counted}
use Rattle.totals.specs.declared.Counted.TheVariants.{Done, Already}
use Rattle.totals.specs.Counting.{hours_of_month, Table, fresh, cells_of, frame_from, frame_of, fitting, added_to, first_past, counting_frame, Call, unchanged, counting}
use Rattle.months.specs.Month.{month}

-- a picture of one row, sRGB
unfoldable pub message_of : ℕ → Channels → List ℕ → List ℕ
message_of width channels chunks =
    header_bytes (record { width = width; height = 1; channels = channels; colorspace = Srgb }) ++ (chunks ++ marker)

-- a buffer of eight bytes holds two cells
abbrev call_of : ℕ → List ℕ → Call
call_of hour message = record { hour = hour; message = message; room = 8 }

-- three hundredths, and 2^32-1 hundredths
abbrev three : List ℕ
three = message_of 1 Rgba (0xff ∷ 0 ∷ 0 ∷ 0 ∷ 3 ∷ [])

abbrev most : List ℕ
most = message_of 1 Rgba (0xff ∷ 255 ∷ 255 ∷ 255 ∷ 255 ∷ [])

-- three hundredths in each of two cells
abbrev three_twice : List ℕ
three_twice = message_of 2 Rgba (0xff ∷ 0 ∷ 0 ∷ 0 ∷ 3 ∷ 0xc0 ∷ [])

-- hour 743 in three channels, cut, with two pixels, and then counted; hour 743 again; hour 0; hour 744
abbrev calls : List Call
calls =
    call_of 743 (message_of 1 Rgb (0xc0 ∷ []))
    ∷ call_of 743 []
    ∷ call_of 743 three_twice
    ∷ call_of 743 three
    ∷ call_of 743 most
    ∷ call_of 0 most
    ∷ call_of 744 three
    ∷ []

-- the answers of calls one after another
unfoldable pub answers : Table → List Call → List (Result Counted Error)
answers t [] = []
answers t (c ∷ cs) = (counting t c).answer ∷ answers (counting t c).table cs

-- two cells with these totals, and no hour marked
abbrev table_of : ℕ → ℕ → Table
table_of one other = record { totals = one ∷ other ∷ []; marks = replicate 744 0 }

-- two dry cells, and hour 5 marked with a 7
abbrev marked : Table
marked = record { totals = 0 ∷ 0 ∷ []; marks = set (replicate 744 0) 5 7 }

-- the answers of the calls, and their total; then, on other tables, 2^64-1 is reached, 21 names the first cell that
-- would pass it, and a 7 is a mark
pub at_work :
    (answers (fresh 1) calls
    ≡ (Err (InvalidChannels 3)
    ∷ Err ended_early
    ∷ Err (InvalidCellCount 2 1)
    ∷ Ok (Done 27)
    ∷ Ok Already
    ∷ Ok (Done 27)
    ∷ Err (InvalidHour 744)
    ∷ []))
    × ((month (fresh 1) calls).totals ≡ 4294967298 ∷ [])
    × ((counting (table_of 5 (2 ^ 64 - 4)) (call_of 5 three_twice)).table.totals ≡ 8 ∷ (2 ^ 64 - 1) ∷ [])
    × (counting (table_of 5 (2 ^ 64 - 3)) (call_of 5 three_twice)
    ≡ unchanged (table_of 5 (2 ^ 64 - 3)) (Err (TotalTooLarge 1)))
    × (counting marked (call_of 5 three_twice) ≡ unchanged marked (Ok Already))
unfolding answers month message_of hours_of_month fresh cells_of frame_from frame_of fitting added_to first_past counting_frame counting slot_of header_bytes header_from after_color_space after_channels header_of chunk_from chunk_at colour_of times_of size_of same_bytes repeated closing start_place pixels_brought pixel_after place_after bytes_of move_by move reading reading_into after_wanted after_header whole_reading decoder_stores decoder_keeps decoder_reads_rgba
at_work = (refl, refl, refl, refl, refl)
