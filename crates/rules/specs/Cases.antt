-- Document 01's pictures and messages, its ways to get it wrong, the ends of its ranges: one list, one statement.
use Rattle.std.specs.Prelude.{true, false, List, [], ◌∷◌, ◌++◌, ℕ, ◌*◌, T, take, replicate}
use Rattle.pixel.specs.declared.types.Channels.TheVariants.{Rgb, Rgba}
use Rattle.rules.specs.Bytes.{repeated}
use Rattle.rules.specs.Reading.{marker}
use Rattle.rules.specs.Record.{record_bytes}
use Rattle.rules.specs.Case.{Case, streams, encodes_into, decodes_into, documents_into, opens, checks, traces, fills, starts, steps_on, counts, counts_back, records, reads_back, takes_up, differ, accepted, refusal, onward, held, rgb, rgba, headed, message, encodes, decodes, documents, reads, leaves, state_left, state_at, state_from, state_after, holds, all_hold}

-- black pixels of three channels
abbrev black : ℕ → List ℕ
black pixels = replicate (pixels * 3) 0

-- A of the table; its slot is 33, hex 21
abbrev A : List ℕ
A = rgb 100 0 0

-- B of the table; its slot is 53, hex 35
abbrev B : List ℕ
B = black 1

-- the table's picture A B A A B
abbrev ABAAB : List ℕ
ABAAB = A ++ (B ++ (A ++ (A ++ B)))

-- its chunks
abbrev chunks_abaab : List ℕ
chunks_abaab = 0xfe ∷ 0x64 ∷ 0x00 ∷ 0x00 ∷ 0xfe ∷ 0x00 ∷ 0x00 ∷ 0x00 ∷ 0x21 ∷ 0x21 ∷ 0x35 ∷ []

-- a header byte by byte: width and height below 256, channels, colour space
abbrev fourteen : ℕ → ℕ → ℕ → ℕ → List ℕ
fourteen width height channels colorspace =
    0x71 ∷ 0x6f ∷ 0x69 ∷ 0x66 ∷ 0 ∷ 0 ∷ 0 ∷ width ∷ 0 ∷ 0 ∷ 0 ∷ height ∷ channels ∷ colorspace ∷ []

-- the stream of a black pixel of three channels byte by byte, in this colour space
abbrev black_stream : ℕ → List ℕ
black_stream colorspace = fourteen 1 1 3 colorspace ++ (0xc0 ∷ 0 ∷ 0 ∷ 0 ∷ 0 ∷ 0 ∷ 0 ∷ 0 ∷ 1 ∷ [])

-- fourteen bytes with a wrong magic, width 0 and height 0
abbrev wrong_magic : ℕ → ℕ → List ℕ
wrong_magic channels colorspace = replicate 12 0 ++ (channels ∷ colorspace ∷ [])

-- the record at the start of message 7, 1x1 RGB, wanted 3
abbrev start_record : List ℕ
start_record = record_bytes (state_from 1 1 Rgb 7 3)

-- the same without its number, and with this byte position, pixel position and alpha of its current pixel
abbrev unnumbered : ℕ → ℕ → ℕ → List ℕ
unnumbered at pixel alpha = take 15 start_record ++ (at ∷ pixel ∷ (rgba 0 0 0 alpha ++ replicate 256 0))

-- the slots that hold A in slot 33 and B in slot 53: 33, 19 and 10 empty ones stand before, between and after
abbrev slots_of_ab : List ℕ
slots_of_ab = replicate 132 0 ++ (rgba 100 0 0 255 ++ (replicate 76 0 ++ (rgba 0 0 0 255 ++ replicate 40 0)))

-- the largest number of a record, 2^64-1
abbrev largest : ℕ
largest = 18446744073709551615

-- its bytes
abbrev largest_bytes : List ℕ
largest_bytes = replicate 9 0xff ++ (0x01 ∷ [])

-- rows marked P, in the table's order
proved : List Case
proved =
    -- 1x1 RGB (0,0,0): c0
    encodes 1 1 Rgb (rgb 0 0 0) (0xc0 ∷ [])
    -- the same: 23 bytes in all
    ∷ encodes_into 1 1 0 (rgb 0 0 0) 26 (accepted (23 ∷ []))
    -- 1x1 RGBA (0,0,0,0): 00
    ∷ encodes 1 1 Rgba (rgba 0 0 0 0) (0x00 ∷ [])
    -- 1x1 RGB (1,255,0): 76
    ∷ encodes 1 1 Rgb (rgb 1 255 0) (0x76 ∷ [])
    -- 1x1 RGB (10,12,9): ac 65
    ∷ encodes 1 1 Rgb (rgb 10 12 9) (0xac ∷ 0x65 ∷ [])
    -- 1x1 RGB (100,0,0): fe 64 00 00
    ∷ encodes 1 1 Rgb (rgb 100 0 0) (0xfe ∷ 0x64 ∷ 0x00 ∷ 0x00 ∷ [])
    -- 1x1 RGBA (0,0,0,128): ff 00 00 00 80
    ∷ encodes 1 1 Rgba (rgba 0 0 0 128) (0xff ∷ 0x00 ∷ 0x00 ∷ 0x00 ∷ 0x80 ∷ [])
    -- 63x1 black RGB: fd c0
    ∷ encodes 63 1 Rgb (black 63) (0xfd ∷ 0xc0 ∷ [])
    -- at 62x1: fd
    ∷ encodes 62 1 Rgb (black 62) (0xfd ∷ [])
    -- 5x1 RGB, A B A A B: fe 64 00 00 fe 00 00 00 21 21 35
    ∷ encodes 5 1 Rgb ABAAB chunks_abaab
    -- decode 2x1 RGBA, c0 35: (0,0,0,255), (0,0,0,0); document: black opaque twice
    ∷ reads 2 1 Rgba 4 (0xc0 ∷ 0x35 ∷ []) (rgba 0 0 0 255 ++ rgba 0 0 0 0) (rgba 0 0 0 255 ++ rgba 0 0 0 255)
    -- decode 3x1 RGBA to 3, ff 0a 00 00 80 ff 00 00 00 ff 1e: third pixel (0,0,0); document (10,0,0)
    ∷ reads 3 1 Rgba 3 (0xff ∷ 0x0a ∷ 0x00 ∷ 0x00 ∷ 0x80 ∷ 0xff ∷ 0x00 ∷ 0x00 ∷ 0x00 ∷ 0xff ∷ 0x1e ∷ [])
    (rgb 10 0 0 ++ (rgb 0 0 0 ++ rgb 0 0 0)) (rgb 10 0 0 ++ (rgb 0 0 0 ++ rgb 10 0 0))
    -- decode 1x1 RGB to 4, 05: (0,0,0,0)
    ∷ decodes 1 1 Rgb 4 (0x05 ∷ marker) (accepted (4 ∷ 23 ∷ [])) (rgba 0 0 0 0)
    -- the number 300 in a record: ac 02
    ∷ counts 300 (0xac ∷ 0x02 ∷ [])
    ∷ []

-- the table's other rows
compared : List Case
compared =
    -- decode 1x1 RGB, ff and seven 00: 8, pixel black
    decodes 1 1 Rgb 3 (0xff ∷ replicate 7 0) (refusal 8 []) (rgb 0 0 0)
    -- ff and six 00: 1, untouched
    ∷ decodes 1 1 Rgb 3 (0xff ∷ replicate 6 0) (refusal 1 []) (held 3)
    -- decode 1x1, fd: accepted
    ∷ decodes 1 1 Rgb 3 (0xfd ∷ marker) (accepted (3 ∷ 23 ∷ [])) (rgb 0 0 0)
    -- the same: strict 10
    ∷ checks (message 1 1 Rgb (0xfd ∷ [])) (refusal 10 [])
    -- 20000x20000: accepted
    ∷ opens (headed 20000 20000 Rgb []) (accepted (20000 ∷ 20000 ∷ 3 ∷ 0 ∷ []))
    -- 20000x20001: 5
    ∷ opens (headed 20000 20001 Rgb []) (refusal 5 (20000 ∷ 20001 ∷ []))
    -- 1x1 RGB into 26 bytes: encoded
    ∷ encodes_into 1 1 0 (rgb 7 7 7) 26 (accepted (24 ∷ []))
    -- into 25 bytes: 7 {25, 26}
    ∷ encodes_into 1 1 0 (rgb 7 7 7) 25 (refusal 7 (25 ∷ 26 ∷ []))
    -- 2x1, 7 data bytes: 6
    ∷ encodes_into 2 1 0 (replicate 7 0) 100 (refusal 6 (7 ∷ 2 ∷ 1 ∷ []))
    -- 1x1, none: 2 {0}
    ∷ encodes_into 1 1 0 [] 100 (refusal 2 (0 ∷ []))
    -- 1x1, 5: 2 {5}
    ∷ encodes_into 1 1 0 (replicate 5 0) 100 (refusal 2 (5 ∷ []))
    -- channels 5, wrong magic: 2
    ∷ opens (wrong_magic 5 0) (refusal 2 (5 ∷ []))
    -- wrong magic, width 0: 4
    ∷ opens (wrong_magic 3 0) (refusal 4 (0 ∷ []))
    -- the program's line for the 33 bytes of A B A A B: ok 5 1 3 0 5 33
    ∷ checks (message 5 1 Rgb chunks_abaab) (accepted (5 ∷ 1 ∷ 3 ∷ 0 ∷ 5 ∷ 33 ∷ []))
    -- its line for empty input: refused 1
    ∷ checks [] (refusal 1 [])
    ∷ []

-- ways to get it wrong, where no row above shows them
mistaken : List Case
mistaken =
    -- storing after INDEX: the decoder must end in (0,0,0,128); the document, which stores, in (0,0,0,0)
    reads 3 1 Rgba 4 (0xff ∷ 0x00 ∷ 0x00 ∷ 0x00 ∷ 0x80 ∷ 0x05 ∷ 0x00 ∷ [])
    (rgba 0 0 0 128 ++ (rgba 0 0 0 0 ++ rgba 0 0 0 128)) (rgba 0 0 0 128 ++ (rgba 0 0 0 0 ++ rgba 0 0 0 0))
    -- a first pixel that is black, then a run of 1 written as INDEX 53: it must be RUN
    ∷ encodes 2 1 Rgb (B ++ A) (0xc0 ∷ 0xfe ∷ 0x64 ∷ 0x00 ∷ 0x00 ∷ [])
    -- consuming ff in a 3-channel source: both pixels are the previous one, and the marker test fails
    ∷ decodes 2 1 Rgb 3 (0xff ∷ 1 ∷ 2 ∷ 3 ∷ 4 ∷ 0xc0 ∷ marker) (refusal 8 []) (black 2)
    -- strict answers 8 at once
    ∷ checks (message 2 1 Rgb (0xff ∷ 1 ∷ 2 ∷ 3 ∷ 4 ∷ 0xc0 ∷ [])) (refusal 8 [])
    -- finding the slot with real alpha, at wanted 4: INDEX brings alpha 0, so (1,0,0,0) is in slot 3
    ∷ decodes 4 1 Rgb 4 (0x05 ∷ 0x7a ∷ 0xfe ∷ 9 ∷ 9 ∷ 9 ∷ 0x03 ∷ marker) (accepted (16 ∷ 29 ∷ []))
    (rgba 0 0 0 0 ++ (rgba 1 0 0 0 ++ (rgba 9 9 9 0 ++ rgba 1 0 0 0)))
    -- a take-up that clears the output, or trusts bytes at the checkpoint's pixel
    ∷ takes_up (message 5 1 Rgb chunks_abaab) 3 15 2 0xee ABAAB
    ∷ []

-- whole streams, byte by byte
spelled : List Case
spelled =
    -- colour space 0, sRGB with linear alpha
    streams 1 1 Rgb 0 (rgb 0 0 0) (black_stream 0)
    -- colour space 1, linear
    ∷ streams 1 1 Rgb 1 (rgb 0 0 0) (black_stream 1)
    -- strict answers the header with its colour space
    ∷ checks (black_stream 1) (accepted (1 ∷ 1 ∷ 3 ∷ 1 ∷ 1 ∷ 23 ∷ []))
    -- width 2, height 3 and four channels stand in their places
    ∷ streams 2 3 Rgba 1 (repeated 6 (rgba 0 0 0 255)) (fourteen 2 3 4 1 ++ (0xc5 ∷ marker))
    -- strict answers each of the header's four figures
    ∷ checks (message 2 3 Rgba (0xc5 ∷ [])) (accepted (2 ∷ 3 ∷ 4 ∷ 0 ∷ 1 ∷ 23 ∷ []))
    -- width and height are 32-bit big-endian
    ∷ opens (0x71 ∷ 0x6f ∷ 0x69 ∷ 0x66 ∷ 0x01 ∷ 0x02 ∷ 0x03 ∷ 0x04 ∷ 0 ∷ 0 ∷ 0 ∷ 5 ∷ 4 ∷ 1 ∷ [])
    (accepted (16909060 ∷ 5 ∷ 4 ∷ 1 ∷ []))
    ∷ []

-- an empty message, whoever reads it, is refusal 1
empty : List Case
empty =
    -- the header
    opens [] (refusal 1 [])
    -- the decoder
    ∷ decodes_into [] 3 0 (refusal 1 []) []
    -- the document
    ∷ documents_into [] 3 0 (refusal 1 []) []
    -- a start
    ∷ starts [] 7 3 (refusal 1 [])
    -- a record
    ∷ reads_back 7 [] (refusal 1 [])
    -- a number
    ∷ counts_back 0 [] (refusal 1 [])
    ∷ []

-- which chunk the encoder writes for a differing pixel; the pixel before the first is (0,0,0,255)
edges : List Case
edges =
    -- DIFF holds -2 in each colour
    encodes 1 1 Rgb (rgb 254 254 254) (0x40 ∷ [])
    -- DIFF holds 1 in each colour
    ∷ encodes 1 1 Rgb (rgb 1 1 1) (0x7f ∷ [])
    -- red +2 is LUMA
    ∷ encodes 1 1 Rgb (rgb 2 0 0) (0xa0 ∷ 0xa8 ∷ [])
    -- green +2 is LUMA
    ∷ encodes 1 1 Rgb (rgb 0 2 0) (0xa2 ∷ 0x66 ∷ [])
    -- blue +2 is LUMA
    ∷ encodes 1 1 Rgb (rgb 0 0 2) (0xa0 ∷ 0x8a ∷ [])
    -- red -3 is LUMA
    ∷ encodes 1 1 Rgb (rgb 253 0 0) (0xa0 ∷ 0x58 ∷ [])
    -- green -3 is LUMA
    ∷ encodes 1 1 Rgb (rgb 0 253 0) (0x9d ∷ 0xbb ∷ [])
    -- blue -3 is LUMA
    ∷ encodes 1 1 Rgb (rgb 0 0 253) (0xa0 ∷ 0x85 ∷ [])
    -- LUMA holds green 31
    ∷ encodes 1 1 Rgb (rgb 31 31 31) (0xbf ∷ 0x88 ∷ [])
    -- green 32 is RGB
    ∷ encodes 1 1 Rgb (rgb 32 32 32) (0xfe ∷ 32 ∷ 32 ∷ 32 ∷ [])
    -- LUMA holds green -32
    ∷ encodes 1 1 Rgb (rgb 224 224 224) (0x80 ∷ 0x88 ∷ [])
    -- green -33 is RGB
    ∷ encodes 1 1 Rgb (rgb 223 223 223) (0xfe ∷ 223 ∷ 223 ∷ 223 ∷ [])
    -- LUMA holds red less green 7
    ∷ encodes 1 1 Rgb (rgb 7 0 0) (0xa0 ∷ 0xf8 ∷ [])
    -- red less green 8 is RGB
    ∷ encodes 1 1 Rgb (rgb 8 0 0) (0xfe ∷ 8 ∷ 0 ∷ 0 ∷ [])
    -- LUMA holds red less green -8
    ∷ encodes 1 1 Rgb (rgb 248 0 0) (0xa0 ∷ 0x08 ∷ [])
    -- red less green -9 is RGB
    ∷ encodes 1 1 Rgb (rgb 247 0 0) (0xfe ∷ 0xf7 ∷ 0x00 ∷ 0x00 ∷ [])
    -- LUMA holds blue less green 7
    ∷ encodes 1 1 Rgb (rgb 0 0 7) (0xa0 ∷ 0x8f ∷ [])
    -- blue less green 8 is RGB
    ∷ encodes 1 1 Rgb (rgb 0 0 8) (0xfe ∷ 0x00 ∷ 0x00 ∷ 0x08 ∷ [])
    -- LUMA holds blue less green -8
    ∷ encodes 1 1 Rgb (rgb 0 0 248) (0xa0 ∷ 0x80 ∷ [])
    -- blue less green -9 is RGB
    ∷ encodes 1 1 Rgb (rgb 0 0 247) (0xfe ∷ 0 ∷ 0 ∷ 247 ∷ [])
    -- differences are against the previous pixel: RGB, then DIFF of 1 each, then LUMA of 10, 12 and 9
    ∷ encodes 3 1 Rgb (rgb 50 60 70 ++ (rgb 51 61 71 ++ rgb 61 73 80))
    (0xfe ∷ 50 ∷ 60 ∷ 70 ∷ 0x7f ∷ 0xac ∷ 0x65 ∷ [])
    -- differences wrap modulo 256: from (255,255,255) to (0,0,0) is 1 each
    ∷ encodes 2 1 Rgb (rgb 255 255 255 ++ rgb 0 0 0) (0x55 ∷ 0x7f ∷ [])
    -- alpha 128 is unchanged: DIFF
    ∷ encodes 2 1 Rgba (rgba 0 0 0 128 ++ rgba 1 0 0 128) (0xff ∷ 0x00 ∷ 0x00 ∷ 0x00 ∷ 0x80 ∷ 0x7a ∷ [])
    -- alpha 128 is unchanged: RGB, which keeps it
    ∷ encodes 2 1 Rgba (rgba 0 0 0 128 ++ rgba 100 0 0 128)
    (0xff ∷ 0x00 ∷ 0x00 ∷ 0x00 ∷ 0x80 ∷ 0xfe ∷ 0x64 ∷ 0x00 ∷ 0x00 ∷ [])
    -- alpha that changes to 255 is RGBA
    ∷ encodes 2 1 Rgba (rgba 0 0 0 128 ++ rgba 1 0 0 255)
    (0xff ∷ 0x00 ∷ 0x00 ∷ 0x00 ∷ 0x80 ∷ 0xff ∷ 0x01 ∷ 0x00 ∷ 0x00 ∷ 0xff ∷ [])
    -- RGBA holds the four bytes in their order
    ∷ encodes 1 1 Rgba (rgba 10 20 30 40) (0xff ∷ 10 ∷ 20 ∷ 30 ∷ 40 ∷ [])
    -- (0,2,0) is in slot 63, the last: INDEX 3f
    ∷ encodes 3 1 Rgb (rgb 0 2 0 ++ (A ++ rgb 0 2 0)) (0xa2 ∷ 0x66 ∷ 0xfe ∷ 0x64 ∷ 0x00 ∷ 0x00 ∷ 0x3f ∷ [])
    -- INDEX only if the slot holds this very pixel: these five share slot 33, and each differs in one channel
    ∷ encodes 5 1 Rgba
    (rgba 100 0 0 255 ++ (rgba 36 0 0 255 ++ (rgba 36 64 0 255 ++ (rgba 36 64 64 255 ++ rgba 36 64 64 191))))
    (0xfe ∷ 100 ∷ 0 ∷ 0 ∷ 0xfe ∷ 36 ∷ 0 ∷ 0 ∷ 0xfe ∷ 36 ∷ 64 ∷ 0 ∷ 0xfe ∷ 36 ∷ 64 ∷ 64 ∷ 0xff ∷ 36 ∷ 64 ∷ 64 ∷ 191 ∷ [])
    ∷ []

-- runs of the encoder
runs : List Case
runs =
    -- a run of 2 that another pixel ends is RUN: A A A B
    encodes 4 1 Rgb (A ++ (A ++ (A ++ B))) (0xfe ∷ 0x64 ∷ 0x00 ∷ 0x00 ∷ 0xc1 ∷ 0xfe ∷ 0x00 ∷ 0x00 ∷ 0x00 ∷ [])
    -- at the last pixel a run of 1 is RUN: A A
    ∷ encodes 2 1 Rgb (A ++ A) (0xfe ∷ 0x64 ∷ 0x00 ∷ 0x00 ∷ 0xc0 ∷ [])
    -- a run of 62 at the last pixel, after A B
    ∷ encodes 64 1 Rgb (A ++ black 63) (0xfe ∷ 0x64 ∷ 0x00 ∷ 0x00 ∷ 0xfe ∷ 0x00 ∷ 0x00 ∷ 0x00 ∷ 0xfd ∷ [])
    -- the first pixel is INDEX and differs from the start pixel, so the run of 1 after it is INDEX too
    ∷ encodes 3 1 Rgba (rgba 0 0 0 0 ++ (rgba 0 0 0 0 ++ rgba 9 0 0 9)) (0x00 ∷ 0x00 ∷ 0xff ∷ 9 ∷ 0 ∷ 0 ∷ 9 ∷ [])
    -- A, a run of 62, a run of 1 as INDEX, then B
    ∷ encodes 65 1 Rgb (repeated 64 A ++ B) (0xfe ∷ 0x64 ∷ 0x00 ∷ 0x00 ∷ 0xfd ∷ 0x21 ∷ 0xfe ∷ 0x00 ∷ 0x00 ∷ 0x00 ∷ [])
    -- a run of 62 and a run of 1 from the start: no pixel has differed, so RUN
    ∷ encodes 64 1 Rgb (black 63 ++ A) (0xfd ∷ 0xc0 ∷ 0xfe ∷ 0x64 ∷ 0x00 ∷ 0x00 ∷ [])
    -- after a run of 62 nothing is left to write before A
    ∷ encodes 63 1 Rgb (black 62 ++ A) (0xfd ∷ 0xfe ∷ 0x64 ∷ 0x00 ∷ 0x00 ∷ [])
    ∷ []

-- the ends of chunks, and of the message
ends : List Case
ends =
    -- 3f is INDEX of the last slot, which is empty
    decodes 1 1 Rgb 4 (0x3f ∷ marker) (accepted (4 ∷ 23 ∷ [])) (rgba 0 0 0 0)
    -- a LUMA chunk whose second byte is not there is 1
    ∷ decodes 1 1 Rgb 3 (0xa1 ∷ []) (refusal 1 []) (held 3)
    -- a whole one is done before the end is 1
    ∷ decodes 1 1 Rgb 3 (0xa1 ∷ 0x88 ∷ []) (refusal 1 []) (rgb 1 1 1)
    -- an RGB chunk without its third byte
    ∷ decodes 1 1 Rgb 3 (0xfe ∷ 1 ∷ 2 ∷ []) (refusal 1 []) (held 3)
    -- a whole one
    ∷ decodes 1 1 Rgb 3 (0xfe ∷ 1 ∷ 2 ∷ 3 ∷ []) (refusal 1 []) (rgb 1 2 3)
    -- an RGBA chunk without its fourth byte
    ∷ decodes 1 1 Rgba 4 (0xff ∷ 1 ∷ 2 ∷ 3 ∷ []) (refusal 1 []) (held 4)
    -- a whole one
    ∷ decodes 1 1 Rgba 4 (0xff ∷ 1 ∷ 2 ∷ 3 ∷ 4 ∷ []) (refusal 1 []) (rgba 1 2 3 4)
    -- after a refusal 1 the pixels of chunks already done stand, the rest is untouched
    ∷ decodes 2 1 Rgb 3 (0xc0 ∷ []) (refusal 1 []) (rgb 0 0 0 ++ held 3)
    -- under 8 bytes after the last pixel: 1
    ∷ decodes 1 1 Rgb 3 (0xc0 ∷ replicate 7 0) (refusal 1 []) (rgb 0 0 0)
    -- not the marker: 8, every pixel written
    ∷ decodes 1 1 Rgb 3 (0xc0 ∷ replicate 8 0) (refusal 8 []) (rgb 0 0 0)
    -- later bytes are ignored
    ∷ decodes 1 1 Rgb 3 (0xc0 ∷ (marker ++ (0 ∷ []))) (accepted (3 ∷ 23 ∷ [])) (rgb 0 0 0)
    -- a run is clipped to the pixels left
    ∷ decodes 2 1 Rgb 3 (0xc0 ∷ 0xfd ∷ marker) (accepted (6 ∷ 24 ∷ [])) (black 2)
    -- an output longer than needed: only the first needed bytes are used
    ∷ decodes_into (message 1 1 Rgb (0xc0 ∷ [])) 3 5 (accepted (3 ∷ 23 ∷ [])) (rgb 0 0 0 ++ held 2)
    -- the document reads ff in any source
    ∷ documents 1 1 Rgb 4 (0xff ∷ 1 ∷ 2 ∷ 3 ∷ 4 ∷ marker) (accepted (4 ∷ 27 ∷ [])) (rgba 1 2 3 4)
    -- the rest of a message is what follows the marker
    ∷ leaves 1 1 Rgb 3 (0xc0 ∷ (marker ++ (1 ∷ 2 ∷ []))) (1 ∷ 2 ∷ [])
    -- after a refusal it is empty
    ∷ leaves 1 1 Rgb 3 (0xc0 ∷ (replicate 7 0 ++ (2 ∷ 1 ∷ []))) []
    ∷ []

-- the order of the refusals of header, encode and decode
orders : List Case
orders =
    -- header: length under 14 is 1, before channels
    opens (take 13 (wrong_magic 5 9)) (refusal 1 [])
    -- then 2
    ∷ opens (wrong_magic 5 9) (refusal 2 (5 ∷ []))
    -- then 3
    ∷ opens (wrong_magic 3 9) (refusal 3 (9 ∷ []))
    -- then 4, with the magic that was found
    ∷ opens (1 ∷ (replicate 11 0 ++ (3 ∷ 1 ∷ []))) (refusal 4 (16777216 ∷ []))
    -- encoding: 5
    ∷ encodes_into 0 1 2 (1 ∷ []) 0 (refusal 5 (0 ∷ 1 ∷ []))
    -- then 6
    ∷ encodes_into 2 1 2 (1 ∷ []) 0 (refusal 6 (1 ∷ 2 ∷ 1 ∷ []))
    -- then 2; 400,000,000 pixels are no refusal 5
    ∷ encodes_into 20000 20000 2 [] 0 (refusal 2 (0 ∷ []))
    -- which carries the quotient or 255 if larger
    ∷ encodes_into 1 1 2 (replicate 256 0) 0 (refusal 2 (255 ∷ []))
    -- then 3 for a colour space above 1
    ∷ encodes_into 1 1 2 (rgb 0 0 0) 0 (refusal 3 (2 ∷ []))
    -- then 7: room required is 22 + pixels x (channels+1)
    ∷ encodes_into 2 1 1 (replicate 8 0) 31 (refusal 7 (31 ∷ 32 ∷ []))
    -- decoding: header
    ∷ decodes_into (wrong_magic 5 9) 300 0 (refusal 2 (5 ∷ [])) []
    -- then 2 for wanted other than 3 or 4
    ∷ decodes_into (headed 1 1 Rgb []) 5 0 (refusal 2 (5 ∷ [])) []
    -- capped at 255
    ∷ decodes_into (headed 1 1 Rgb []) 300 0 (refusal 2 (255 ∷ [])) []
    -- then 7: required is pixels x wanted
    ∷ decodes_into (headed 2 1 Rgb []) 4 7 (refusal 7 (7 ∷ 8 ∷ [])) (held 7)
    -- then chunks
    ∷ decodes_into (headed 1 1 Rgb []) 4 4 (refusal 1 []) (held 4)
    ∷ []

-- the strict check
stricts : List Case
stricts =
    -- a run of 2 is one chunk for two pixels
    checks (message 2 1 Rgb (0xc1 ∷ [])) (accepted (2 ∷ 1 ∷ 3 ∷ 0 ∷ 1 ∷ 23 ∷ []))
    -- a run one longer than the pixels left is 10
    ∷ checks (message 1 1 Rgb (0xc1 ∷ [])) (refusal 10 [])
    -- the pixels left are fewer after a chunk
    ∷ checks (message 2 1 Rgb (0xc0 ∷ 0xc1 ∷ [])) (refusal 10 [])
    -- LUMA, DIFF and INDEX: three chunks in four bytes
    ∷ checks (message 3 1 Rgb (0xa0 ∷ 0x88 ∷ 0x6a ∷ 0x35 ∷ [])) (accepted (3 ∷ 1 ∷ 3 ∷ 0 ∷ 3 ∷ 26 ∷ []))
    -- RGBA in a 4-channel source: one chunk in five bytes
    ∷ checks (message 1 1 Rgba (0xff ∷ 0 ∷ 0 ∷ 0 ∷ 128 ∷ [])) (accepted (1 ∷ 1 ∷ 4 ∷ 0 ∷ 1 ∷ 27 ∷ []))
    -- header first, with its own order
    ∷ checks (wrong_magic 5 9) (refusal 2 (5 ∷ []))
    -- at each chunk 1
    ∷ checks (headed 1 1 Rgb (0xa0 ∷ [])) (refusal 1 [])
    -- ff in a 3-channel source with under 8 bytes left is 1
    ∷ checks (headed 1 1 Rgb (0xff ∷ replicate 6 0)) (refusal 1 [])
    -- with 8 it is 8
    ∷ checks (headed 1 1 Rgb (0xff ∷ replicate 7 0)) (refusal 8 [])
    -- a run past the image is 10, before the end is looked at
    ∷ checks (headed 1 1 Rgb (0xfd ∷ [])) (refusal 10 [])
    -- at the end 1
    ∷ checks (headed 1 1 Rgb (0xc0 ∷ replicate 7 0)) (refusal 1 [])
    -- then 8
    ∷ checks (headed 1 1 Rgb (0xc0 ∷ replicate 9 0)) (refusal 8 [])
    -- then 11
    ∷ checks (headed 1 1 Rgb (0xc0 ∷ (marker ++ (0 ∷ [])))) (refusal 11 [])
    ∷ []

-- what the decoder reads of a message: runs that fit, chunks, and where each is found
traced : List Case
traced =
    -- A B A A B: five chunks, no run
    traces (message 5 1 Rgb chunks_abaab) true 5 (14 ∷ 18 ∷ 22 ∷ 23 ∷ 24 ∷ [])
    -- a run of 2 for two pixels fits
    ∷ traces (message 2 1 Rgb (0xc1 ∷ [])) true 1 (14 ∷ [])
    -- a run of 2 for one pixel does not
    ∷ traces (message 1 1 Rgb (0xc1 ∷ [])) false 1 (14 ∷ [])
    -- nor for the one pixel that is left
    ∷ traces (message 2 1 Rgb (0xc0 ∷ 0xc1 ∷ [])) false 2 (14 ∷ 15 ∷ [])
    -- nor in a message with no marker; with no pixel left no chunk is read
    ∷ traces (headed 1 1 Rgb (0xc1 ∷ 0xc0 ∷ [])) false 1 (14 ∷ [])
    -- with a pixel left the marker's bytes are read as chunks
    ∷ traces (message 4 1 Rgb (0xc1 ∷ [])) true 3 (14 ∷ 15 ∷ 16 ∷ [])
    -- RGBA takes five bytes of a 4-channel source
    ∷ traces (message 2 1 Rgba (0xff ∷ 0 ∷ 0 ∷ 0 ∷ 128 ∷ 0x7a ∷ [])) true 2 (14 ∷ 19 ∷ [])
    -- a cut message: the chunks up to the cut
    ∷ traces (headed 3 1 Rgb (0xc0 ∷ 0xa0 ∷ [])) true 1 (14 ∷ [])
    -- a header alone
    ∷ traces (headed 3 1 Rgb []) true 0 []
    -- an ff that is not consumed counts one for each pixel left
    ∷ traces (headed 4 1 Rgb (0xc0 ∷ 0xff ∷ replicate 7 0)) true 4 (14 ∷ 15 ∷ 15 ∷ 15 ∷ [])
    -- with under 8 bytes left it is cut
    ∷ traces (headed 4 1 Rgb (0xc0 ∷ 0xff ∷ replicate 6 0)) true 1 (14 ∷ [])
    -- a message with no header
    ∷ traces [] true 0 []
    -- a header that is refused
    ∷ traces (wrong_magic 3 0 ++ (0xc0 ∷ marker)) true 0 []
    ∷ []

-- filled slots
filled : List Case
filled =
    -- RUN fills none
    fills (message 2 1 Rgba (0xc0 ∷ 0x35 ∷ [])) false
    -- slot 0 of a 4-channel source is excepted
    ∷ fills (message 3 1 Rgba (0x00 ∷ 0x00 ∷ 0xff ∷ 9 ∷ 0 ∷ 0 ∷ 9 ∷ [])) true
    -- slot 5 is not
    ∷ fills (message 3 1 Rgba (0xff ∷ 0x00 ∷ 0x00 ∷ 0x00 ∷ 0x80 ∷ 0x05 ∷ 0x00 ∷ [])) false
    -- nor slot 0 of a 3-channel source
    ∷ fills (message 1 1 Rgb (0x00 ∷ [])) false
    -- RGB fills its pixel's slot
    ∷ fills (message 5 1 Rgb chunks_abaab) true
    -- and no other
    ∷ fills (message 2 1 Rgb (0xfe ∷ 0x64 ∷ 0x00 ∷ 0x00 ∷ 0x22 ∷ [])) false
    -- so does DIFF
    ∷ fills (message 2 1 Rgb (0x7a ∷ 0x38 ∷ [])) true
    -- and LUMA
    ∷ fills (message 2 1 Rgb (0xa0 ∷ 0xa8 ∷ 0x3b ∷ [])) true
    -- and RGBA, with the real alpha of a 4-channel source
    ∷ fills (message 2 1 Rgba (0xff ∷ 0x0a ∷ 0x00 ∷ 0x00 ∷ 0x80 ∷ 0x1e ∷ [])) true
    -- the last slot, 63, is filled like the others
    ∷ fills (message 2 1 Rgb (0xa2 ∷ 0x66 ∷ 0x3f ∷ [])) true
    -- an ff that is not consumed names no slot
    ∷ fills (headed 1 1 Rgb (0xff ∷ replicate 7 0)) true
    -- an INDEX before the chunk that fills its slot names an empty one
    ∷ fills (message 2 1 Rgb (0x21 ∷ 0xfe ∷ 0x64 ∷ 0x00 ∷ 0x00 ∷ [])) false
    -- the marker is no INDEX
    ∷ fills (message 2 1 Rgb (0xfd ∷ [])) true
    -- a message with no header names none
    ∷ fills [] true
    ∷ []

-- starts and steps, and the order of their refusals
steps : List Case
steps =
    -- a start: header
    starts (wrong_magic 5 9) 7 300 (refusal 2 (5 ∷ []))
    -- then 2, capped at 255
    ∷ starts (headed 1 1 Rgb []) 7 300 (refusal 2 (255 ∷ []))
    -- byte position 14, pixel position 0, the wanted channels, every pixel left
    ∷ starts (headed 1 1 Rgb []) 7 4 (accepted (14 ∷ 0 ∷ 4 ∷ 1 ∷ []))
    -- any number, which the state keeps
    ∷ starts (headed 1 1 Rgb []) largest 4 (accepted (14 ∷ 0 ∷ 4 ∷ 1 ∷ []))
    -- its header is the message's
    ∷ starts (black_stream 1) 7 3 (accepted (14 ∷ 0 ∷ 3 ∷ 1 ∷ []))
    -- a state is well formed if the header passes its own test: else 9, before 7
    ∷ steps_on (state_at 20000 20001 Rgb 3 14 0 255) [] 0 (refusal 9 []) []
    -- and has a pixel
    ∷ steps_on (state_at 0 1 Rgb 3 14 0 255) [] 0 (refusal 9 []) []
    -- wanted is 3 or 4
    ∷ steps_on (state_at 1 1 Rgb 5 14 0 255) [] 0 (refusal 9 []) []
    -- byte position is at least 14
    ∷ steps_on (state_at 1 1 Rgb 3 13 0 255) [] 0 (refusal 9 []) []
    -- pixel position at most the pixels
    ∷ steps_on (state_at 1 1 Rgb 3 14 2 255) [] 0 (refusal 9 []) []
    -- it and the pixels left add up to the pixels: one too few
    ∷ steps_on (state_left 3 1 Rgb 3 14 1 1 255) [] 0 (refusal 9 []) []
    -- one too many
    ∷ steps_on (state_left 3 1 Rgb 3 14 1 3 255) [] 0 (refusal 9 []) []
    -- the pixels left as at the start
    ∷ steps_on (state_left 1 1 Rgb 3 15 1 1 255) (message 1 1 Rgb (0xc0 ∷ [])) 3 (refusal 9 []) (held 3)
    -- the fourth byte is 255 when wanted is 3
    ∷ steps_on (state_at 1 1 Rgb 3 14 0 254) [] 0 (refusal 9 []) []
    -- then 7, before the byte position
    ∷ steps_on (state_at 1 1 Rgb 3 largest 1 255) [] 2 (refusal 7 (2 ∷ 3 ∷ [])) (held 2)
    -- then byte position past the message: 1
    ∷ steps_on (state_at 1 1 Rgb 3 largest 0 255) (message 1 1 Rgb (0xc0 ∷ [])) 3 (refusal 1 []) (held 3)
    -- also with no pixel left
    ∷ steps_on (state_at 1 1 Rgb 3 largest 1 255) (message 1 1 Rgb (0xc0 ∷ [])) 3 (refusal 1 []) (held 3)
    -- a chunk is written from the pixel position on
    ∷ steps_on (state_at 3 1 Rgb 3 14 1 255) (headed 3 1 Rgb (0xfe ∷ 1 ∷ 2 ∷ 3 ∷ [])) 9 (onward 18 2 3 1)
    (held 3 ++ (rgb 1 2 3 ++ held 3))
    -- a run longer than the pixels left leaves none
    ∷ steps_on (state_at 3 1 Rgb 3 14 1 255) (headed 3 1 Rgb (0xfd ∷ [])) 9 (onward 15 3 3 0) (held 3 ++ replicate 6 0)
    -- with no pixel left the marker test ends, and writes nothing
    ∷ steps_on (state_at 1 1 Rgb 3 15 1 255) (message 1 1 Rgb (0xc0 ∷ [])) 3 (accepted (3 ∷ 23 ∷ [])) (held 3)
    -- one pixel for an unconsumed ff; with wanted 4 the fourth byte may be 7
    ∷ steps_on (state_at 2 1 Rgb 4 14 0 7) (headed 2 1 Rgb (0xff ∷ replicate 7 0)) 8 (onward 14 1 4 1)
    (rgba 0 0 0 7 ++ held 4)
    ∷ []

-- numbers and records, and the order of their refusals
record_rows : List Case
record_rows =
    -- a number in one byte
    counts 0 (0x00 ∷ [])
    -- the last number in one byte
    ∷ counts 127 (0x7f ∷ [])
    -- the first in two
    ∷ counts 128 (0x80 ∷ 0x01 ∷ [])
    -- at most 2^64-1
    ∷ counts largest largest_bytes
    -- a number after three bytes
    ∷ counts_back 3 (held 3 ++ (0xac ∷ 0x02 ∷ [])) (accepted (300 ∷ 2 ∷ []))
    -- a tenth byte above 01 is 9, with the offset at which the number starts
    ∷ counts_back 3 (held 3 ++ (replicate 9 0xff ++ (0x02 ∷ []))) (refusal 9 (3 ∷ []))
    -- not shortest is 9 there
    ∷ counts_back 3 (held 3 ++ (0x82 ∷ 0x00 ∷ [])) (refusal 9 (3 ∷ []))
    -- cut short is 1 there
    ∷ counts_back 3 (held 3 ++ (0x82 ∷ [])) (refusal 1 (3 ∷ []))
    -- also where nothing is left of it
    ∷ counts_back 3 (held 3) (refusal 1 (3 ∷ []))
    -- or it would start past the end
    ∷ counts_back largest (held 3) (refusal 1 (largest ∷ []))
    -- the shortest record, 278 bytes; bytes after it stay
    ∷ records (state_from 1 1 Rgb 7 3) 280 (accepted (278 ∷ []))
    (fourteen 1 1 3 0 ++ (3 ∷ 14 ∷ 0 ∷ (rgba 0 0 0 255 ++ (replicate 256 0 ++ (7 ∷ held 2)))))
    -- the largest number takes ten bytes
    ∷ records (state_from 1 1 Rgb largest 3) 287 (accepted (287 ∷ []))
    (fourteen 1 1 3 0 ++ (3 ∷ 14 ∷ 0 ∷ (rgba 0 0 0 255 ++ (replicate 256 0 ++ largest_bytes))))
    -- A B A A B after two steps: byte position 22, pixel position 2, current pixel B, both in their slots
    ∷ records (state_after 2 5 1 Rgb 3 chunks_abaab) 278 (accepted (278 ∷ []))
    (fourteen 5 1 3 0 ++ (3 ∷ 22 ∷ 2 ∷ (rgba 0 0 0 255 ++ (slots_of_ab ++ (7 ∷ [])))))
    -- writing: 9, before 7
    ∷ records (state_from 1 1 Rgb 7 5) 277 (refusal 9 []) (held 277)
    -- 9 where there is room, too: nothing is written
    ∷ records (state_from 1 1 Rgb 7 5) 278 (refusal 9 []) (held 278)
    -- also where the pixels left do not add up
    ∷ records (state_left 3 1 Rgb 3 14 1 3 255) 278 (refusal 9 []) (held 278)
    -- then 7: required is its length
    ∷ records (state_from 1 1 Rgb 7 3) 277 (refusal 7 (277 ∷ 278 ∷ [])) (held 277)
    -- reading back gives the same state
    ∷ reads_back 7 start_record (accepted (14 ∷ 0 ∷ 3 ∷ 1 ∷ []))
    -- also in the middle of A B A A B
    ∷ reads_back 7 (record_bytes (state_after 2 5 1 Rgb 3 chunks_abaab)) (accepted (22 ∷ 2 ∷ 3 ∷ 3 ∷ []))
    -- also with wanted 4
    ∷ reads_back 7 (record_bytes (state_from 1 1 Rgb 7 4)) (accepted (14 ∷ 0 ∷ 4 ∷ 1 ∷ []))
    -- also of the largest number
    ∷ reads_back largest (record_bytes (state_from 1 1 Rgb largest 3)) (accepted (14 ∷ 0 ∷ 3 ∷ 1 ∷ []))
    -- reading goes left to right: a header cut short is 1 at 0
    ∷ reads_back 7 (take 13 start_record) (refusal 1 [])
    -- header as above
    ∷ reads_back 7 (wrong_magic 5 9) (refusal 2 (5 ∷ []))
    -- cut short before wanted: 1 where it would start
    ∷ reads_back 7 (take 14 start_record) (refusal 1 (14 ∷ []))
    -- wanted not shortest: 9 where it starts
    ∷ reads_back 7 (take 14 start_record ++ (0x82 ∷ 0x00 ∷ [])) (refusal 9 (14 ∷ []))
    -- wanted other than 3 or 4 is 2 at its place
    ∷ reads_back 7 (take 14 start_record ++ (0x05 ∷ [])) (refusal 2 (5 ∷ []))
    -- capped at 255
    ∷ reads_back 7 (take 14 start_record ++ (0xac ∷ 0x02 ∷ [])) (refusal 2 (255 ∷ []))
    -- byte position not shortest: 9
    ∷ reads_back 7 (take 15 start_record ++ (0x8e ∷ 0x00 ∷ [])) (refusal 9 (15 ∷ []))
    -- its tenth byte above 01
    ∷ reads_back 7 (take 15 start_record ++ (replicate 9 0xff ++ (0x02 ∷ []))) (refusal 9 (15 ∷ []))
    -- cut short after nine bytes: 1
    ∷ reads_back 7 (take 15 start_record ++ replicate 9 0xff) (refusal 1 (15 ∷ []))
    -- cut short before pixel position: 1
    ∷ reads_back 7 (take 16 start_record) (refusal 1 (16 ∷ []))
    -- pixel position not shortest: 9
    ∷ reads_back 7 (take 16 start_record ++ (0x80 ∷ 0x00 ∷ [])) (refusal 9 (16 ∷ []))
    -- after a byte position of two bytes
    ∷ reads_back 7 (take 15 start_record ++ (0xac ∷ 0x02 ∷ 0x80 ∷ 0x00 ∷ [])) (refusal 9 (17 ∷ []))
    -- the current pixel cut short: 1
    ∷ reads_back 7 (take 20 start_record) (refusal 1 (17 ∷ []))
    -- the slots cut short: 1 where the first one starts
    ∷ reads_back 7 (take 21 start_record) (refusal 1 (21 ∷ []))
    -- the last slot cut short, too
    ∷ reads_back 7 (take 276 start_record) (refusal 1 (21 ∷ []))
    -- cut short comes before byte position 13
    ∷ reads_back 7 (take 15 start_record ++ (0x0d ∷ 0x00 ∷ replicate 259 0)) (refusal 1 (21 ∷ []))
    -- a record from before it had a number ends too early: 1
    ∷ reads_back 7 (unnumbered 14 0 255) (refusal 1 (277 ∷ []))
    -- also where its byte position is 13: the number comes before the state's other faults
    ∷ reads_back 7 (unnumbered 13 0 255) (refusal 1 (277 ∷ []))
    -- the number cut short: 1
    ∷ reads_back 7 (take 277 start_record ++ (0x87 ∷ [])) (refusal 1 (277 ∷ []))
    -- not shortest: 9
    ∷ reads_back 7 (take 277 start_record ++ (0x87 ∷ 0x00 ∷ [])) (refusal 9 (277 ∷ []))
    -- above 2^64-1: 9
    ∷ reads_back largest (take 277 start_record ++ (replicate 9 0xff ++ (0x02 ∷ []))) (refusal 9 (277 ∷ []))
    -- after the number, byte position 13 is 9, before another number
    ∷ reads_back 8 (unnumbered 13 0 255 ++ (7 ∷ [])) (refusal 9 (15 ∷ []))
    -- so is pixel position 2 of 1
    ∷ reads_back 8 (unnumbered 14 2 255 ++ (7 ∷ [])) (refusal 9 (16 ∷ []))
    -- also after a byte position of two bytes
    ∷ reads_back 7 (record_bytes (state_left 1 1 Rgb 3 300 2 0 255)) (refusal 9 (17 ∷ []))
    -- and a current pixel whose fourth byte is 254, with wanted 3
    ∷ reads_back 8 (unnumbered 14 0 254 ++ (7 ∷ [])) (refusal 9 (17 ∷ []))
    -- also after longer positions
    ∷ reads_back 7 (record_bytes (state_left 300 1 Rgb 3 300 299 1 254)) (refusal 9 (19 ∷ []))
    -- of several faults of state the first is told
    ∷ reads_back 8 (unnumbered 13 2 254 ++ (7 ∷ [])) (refusal 9 (15 ∷ []))
    -- the pixel position before the current pixel
    ∷ reads_back 8 (unnumbered 14 2 254 ++ (7 ∷ [])) (refusal 9 (16 ∷ []))
    -- and a fault of state before extra bytes
    ∷ reads_back 8 (unnumbered 14 0 254 ++ (7 ∷ 0 ∷ [])) (refusal 9 (17 ∷ []))
    -- extra bytes: 9 where they begin, before another number
    ∷ reads_back 8 (start_record ++ (0 ∷ [])) (refusal 9 (278 ∷ []))
    -- however many, with the number expected
    ∷ reads_back 7 (start_record ++ (0 ∷ 0 ∷ [])) (refusal 9 (278 ∷ []))
    -- after the longest number
    ∷ reads_back largest (record_bytes (state_from 1 1 Rgb largest 3) ++ (0 ∷ [])) (refusal 9 (287 ∷ []))
    -- another number last: 12, with the number found
    ∷ reads_back 8 start_record (refusal 12 (7 ∷ []))
    -- whatever its size
    ∷ reads_back 7 (record_bytes (state_from 1 1 Rgb largest 3)) (refusal 12 (largest ∷ []))
    ∷ []

-- the comparison that judges the rows above and knows the marker
unlike : List Case
unlike =
    -- another number
    differ (0 ∷ 1 ∷ []) (0 ∷ 2 ∷ [])
    -- one more
    ∷ differ (0 ∷ []) (0 ∷ 1 ∷ [])
    -- one fewer
    ∷ differ (0 ∷ 1 ∷ []) (0 ∷ [])
    ∷ []

-- all of them
pub cases : List Case
cases =
    proved
    ++ (compared
    ++ (mistaken
    ++ (spelled
    ++ (empty
    ++ (edges
    ++ (runs
    ++ (ends
    ++ (orders
    ++ (stricts
    ++ (traced
    ++ (filled
    ++ (steps
    ++ (record_rows
    ++ unlike)))))))))))))

-- every case holds
pub cases_hold : T (all_hold cases)
unfolding all_hold holds cases proved compared mistaken spelled empty edges runs ends orders stricts traced filled steps
    record_rows unlike
cases_hold = tt
