-- One case of the list in `Cases`: its kinds, what each is given and what must come, and the test whether it holds.
use Rattle.std.specs.Prelude.{Bool, true, false, not, ◌&&◌, List, [], ◌∷◌, ◌++◌, map, ℕ, ◌+◌, ◌-◌, ◌*◌, eqb, length, take, drop, replicate, Result, Ok, Err}
use Rattle.pixel.specs.declared.error.Error.{Error}
use Rattle.pixel.specs.declared.types.Channels.{Channels}
use Rattle.pixel.specs.declared.types.Channels.TheVariants.{Rgb}
use Rattle.pixel.specs.declared.types.ColorSpace.TheVariants.{Srgb}
use Rattle.pixel.specs.Colour.{slot_of, pixel_of, clear_pixel}
use Rattle.pixel.specs.Types.{channels_number, color_space_number}
use Rattle.number.specs.declared.Number.{Number}
use Rattle.number.specs.Seven.{seven_bits_of, seven_bits, group_below, read_more, read_first, read_number}
use Rattle.header.specs.declared.Header.{Header}
use Rattle.header.specs.Header.{header_bytes, header_from, after_color_space, after_channels, header_of}
use Rattle.rules.specs.Chunk.{chunk_from, chunk_at, colour_of, times_of, size_of}
use Rattle.rules.specs.Bytes.{same_bytes, repeated, written_over}
use Rattle.rules.specs.Reading.{Reading, marker, closing, start_place, pixels_brought, pixel_after, place_after, bytes_of, move_by, move, reading, reading_into, after_wanted, after_header, whole_reading}
use Rattle.rules.specs.Decode.{decoder_stores, decoder_keeps, decoder_reads_rgba, decoding, rest_of}
use Rattle.rules.specs.Trace.{Visit, visits_on, chunk_due, visits, header_trace, trace}
use Rattle.rules.specs.Document.{document_reading, names_filled, filled_after, filled_in, indexes_filled}
use Rattle.pixel.specs.Bytes.{pixel_from, pixels_from}
use Rattle.rules.specs.Encode.{EncodeAnswer, encoded, not_encoded, Encoding, fits_diff, fits_luma, diff_chunk, luma_chunk, colour_chunk, start_pen, run_ended, slot_holds, differing_chunk, pixel_chunks, pen_after, chunks_from, chunk_bytes, chunks_bytes, chunks_of, stream_of, after_length, after_dimensions, picture_header, encoding_into, after_space, after_picture_header, encoding}
use Rattle.rules.specs.Step.{State, well_formed, start_state, Started, started, not_started, start_wanted, start_header, starting, Step, step_by, step, stepped_over, Ran, going, ended, running}
use Rattle.rules.specs.Record.{Recorded, recorded, not_recorded, pixels_bytes, record_bytes, recording, recorded_over, after_number, accept_number, fault_offset, accept_state, read_slots, read_positions, read_wanted, read_record}
use Rattle.rules.specs.Strict.{StrictAnswer, strict_closed, strict_closing, strict_counted, strict_by, strict_move, strict_from, strict_header, strict, runs_fit_in, runs_fit, chunk_count}
use Rattle.rules.specs.Figures.{refusal_figures, header_figures, answer_figures, encode_figures, strict_figures}

-- a row: what is given, and then what must come; an answer is its number and figures, and an output is lent full of ee
pub data Case : Type 0 where
  -- width, height, channels, colour space and bytes of a picture: its stream, which is opened and read on both sides
  streams : ℕ → ℕ → Channels → ℕ → List ℕ → List ℕ → Case
  -- width, height, colour space and bytes of a picture, room: the answer
  encodes_into : ℕ → ℕ → ℕ → List ℕ → ℕ → List ℕ → Case
  -- a message, wanted, room: the decoder's answer, the output at exit
  decodes_into : List ℕ → ℕ → ℕ → List ℕ → List ℕ → Case
  -- a message, wanted, room: the document's answer, the output at exit
  documents_into : List ℕ → ℕ → ℕ → List ℕ → List ℕ → Case
  -- a message that both sides use to its end, wanted, room: the decoder's bytes, the document's bytes
  reads_into : List ℕ → ℕ → ℕ → List ℕ → List ℕ → Case
  -- a message, wanted, room: the rest of the message after its decode
  leaves_after : List ℕ → ℕ → ℕ → List ℕ → Case
  -- a message: its header's answer
  opens : List ℕ → List ℕ → Case
  -- a message: the strict answer
  checks : List ℕ → List ℕ → Case
  -- a message: whether each run fits, how many chunks are read, the byte position of each
  traces : List ℕ → Bool → ℕ → List ℕ → Case
  -- a message: whether each INDEX names a filled slot
  fills : List ℕ → Bool → Case
  -- a message, its number, wanted: a start's answer; what starts has the message's header and number, and the start
  -- place
  starts : List ℕ → ℕ → ℕ → List ℕ → Case
  -- a state, a message, room: the step's answer, the output at exit
  steps_on : State → List ℕ → ℕ → List ℕ → List ℕ → Case
  -- a number: its bytes in a record, which are read back
  counts : ℕ → List ℕ → Case
  -- an offset, bytes: the answer for the number that starts there
  counts_back : ℕ → List ℕ → List ℕ → Case
  -- a state, room: the answer for its record, the output at exit
  records : State → ℕ → List ℕ → List ℕ → Case
  -- the number expected, bytes: the answer for the record that they are; what is read back has the same record
  reads_back : ℕ → List ℕ → List ℕ → Case
  -- a message, wanted, output size, steps before a checkpoint, the byte found from there on: the output at the end
  takes_up : List ℕ → ℕ → ℕ → ℕ → ℕ → List ℕ → Case
  -- two lists that the comparison of these tests must tell apart
  differ : List ℕ → List ℕ → Case

-- a number read: its value, the bytes that it took
abbrev number_figures : Result Number Error → List ℕ
number_figures (Ok number) = 0 ∷ number.value ∷ number.used ∷ 0 ∷ 0 ∷ []
number_figures (Err e) = refusal_figures e

-- a start or a take-up: byte position, pixel position, wanted channels, pixels left
abbrev start_figures : Started → List ℕ
start_figures (started s) = 0 ∷ s.place.at ∷ s.place.pixel ∷ s.wanted ∷ s.left ∷ []
start_figures (not_started e) = refusal_figures e

-- a record written: its length
abbrev record_figures : Recorded → List ℕ
record_figures (recorded size) = 0 ∷ size ∷ 0 ∷ 0 ∷ 0 ∷ []
record_figures (not_recorded e) = refusal_figures e

-- a step: 256 with byte position, pixel position, wanted channels and pixels left, or its end's answer
abbrev step_figures : Step → List ℕ
step_figures (Step.more s bytes) = 256 ∷ s.place.at ∷ s.place.pixel ∷ s.wanted ∷ s.left ∷ []
step_figures (Step.end answer) = answer_figures answer

-- a number and its figures, zeros after them up to four
abbrev answer : ℕ → List ℕ → List ℕ
answer number figures = number ∷ (figures ++ replicate (4 - length figures) 0)

-- what is accepted answers 0 and its figures
abbrev pub accepted : List ℕ → List ℕ
accepted figures = answer 0 figures

-- a refusal answers its number and its figures
abbrev pub refusal : ℕ → List ℕ → List ℕ
refusal number figures = answer number figures

-- a step with more to do answers 256 and the next state's byte position, pixel position, wanted channels, pixels left
abbrev pub onward : ℕ → ℕ → ℕ → ℕ → List ℕ
onward at pixel wanted left = answer 256 (at ∷ pixel ∷ wanted ∷ left ∷ [])

-- bytes of an output that were not written
abbrev pub held : ℕ → List ℕ
held size = replicate size 0xee

-- a pixel of three channels
abbrev pub rgb : ℕ → ℕ → ℕ → List ℕ
rgb r g b = r ∷ g ∷ b ∷ []

-- a pixel of four
abbrev pub rgba : ℕ → ℕ → ℕ → ℕ → List ℕ
rgba r g b a = r ∷ g ∷ b ∷ a ∷ []

-- a header, sRGB
abbrev header_with : ℕ → ℕ → Channels → Header
header_with width height channels = record { width = width; height = height; channels = channels; colorspace = Srgb }

-- a header's bytes and what follows them
abbrev pub headed : ℕ → ℕ → Channels → List ℕ → List ℕ
headed width height channels body = header_bytes (header_with width height channels) ++ body

-- a message that ends with the marker
abbrev pub message : ℕ → ℕ → Channels → List ℕ → List ℕ
message width height channels chunks = headed width height channels (chunks ++ marker)

-- a picture of colour space 0, and the chunks of its stream
abbrev pub encodes : ℕ → ℕ → Channels → List ℕ → List ℕ → Case
encodes width height channels picture chunks =
    streams width height channels 0 picture (message width height channels chunks)

-- what follows a header, decoded into just the room that is needed
abbrev pub decodes : ℕ → ℕ → Channels → ℕ → List ℕ → List ℕ → List ℕ → Case
decodes width height channels wanted body =
    decodes_into (headed width height channels body) wanted (width * height * wanted)

-- the same by the document's rules
abbrev pub documents : ℕ → ℕ → Channels → ℕ → List ℕ → List ℕ → List ℕ → Case
documents width height channels wanted body =
    documents_into (headed width height channels body) wanted (width * height * wanted)

-- chunks that both sides accept
abbrev pub reads : ℕ → ℕ → Channels → ℕ → List ℕ → List ℕ → List ℕ → Case
reads width height channels wanted chunks =
    reads_into (message width height channels chunks) wanted (width * height * wanted)

-- the rest after what follows a header
abbrev pub leaves : ℕ → ℕ → Channels → ℕ → List ℕ → List ℕ → Case
leaves width height channels wanted body =
    leaves_after (headed width height channels body) wanted (width * height * wanted)

-- a made-up state of message 7 with empty slots: header, wanted, byte position, pixel position, pixels left, the alpha
-- of a black current pixel
abbrev pub state_left : ℕ → ℕ → Channels → ℕ → ℕ → ℕ → ℕ → ℕ → State
state_left width height channels wanted at pixel left alpha =
    record {
      header = header_with width height channels;
      wanted = wanted;
      place = record { at = at; pixel = pixel; current = pixel_of 0 0 0 alpha; slots = replicate 64 clear_pixel };
      left = left;
      number = 7;
    }

-- the same with as many pixels left as the picture has from its pixel position on
abbrev pub state_at : ℕ → ℕ → Channels → ℕ → ℕ → ℕ → ℕ → State
state_at width height channels wanted at pixel alpha =
    state_left width height channels wanted at pixel (width * height - pixel) alpha

-- the state at the start of a picture: width, height, channels, the message's number, wanted
abbrev pub state_from : ℕ → ℕ → Channels → ℕ → ℕ → State
state_from width height channels number wanted = start_state (header_with width height channels) number wanted

-- the state that some steps lead to
state_of : Ran → State
state_of (going s out) = s
state_of (ended verdict s out) = s

-- the state after n steps from the start of message 7's picture
pub state_after : ℕ → ℕ → ℕ → Channels → ℕ → List ℕ → State
state_after steps width height channels wanted chunks =
    let s = state_from width height channels 7 wanted in
    state_of (running (message width height channels chunks) steps s (held (width * height * wanted)))

-- what a worker leaves that ends
after_run : Ran → List ℕ
after_run (going s out) = []
after_run (ended verdict s out) = out

-- a second worker reads the first one's record and goes on; from the checkpoint's pixel on it finds another byte
resumed : List ℕ → ℕ → List ℕ → ℕ → Started → List ℕ
resumed m limit out found (not_started e) = []
resumed m limit out found (started s) =
    let kept = s.place.pixel * s.wanted in
    after_run (running m limit s (take kept out ++ replicate (length (drop kept out)) found))

-- a first worker stops after its steps and leaves its record
checkpointed : List ℕ → ℕ → ℕ → Ran → List ℕ
checkpointed m limit found (going s out) = resumed m limit out found (read_record 7 (record_bytes s))
checkpointed m limit found (ended verdict s out) = []

-- a first worker starts on message 7 with an output of zeros
begun : List ℕ → ℕ → ℕ → ℕ → ℕ → Started → List ℕ
begun m steps limit size found (not_started e) = []
begun m steps limit size found (started s) = checkpointed m limit found (running m steps s (replicate size 0))

-- whether two tests answer the same
same_test : Bool → Bool → Bool
same_test true b = b
same_test false b = not b

-- whether a reading's answer is this one, and the output at exit, which held ee, is this one
abbrev reading_is : ℕ → List ℕ → List ℕ → Reading → Bool
reading_is room figures out r =
    same_bytes (answer_figures r.answer) figures && same_bytes (written_over r.bytes (held room)) out

-- whether the decoder and the document use a message to its end and write these bytes
abbrev read_both : List ℕ → ℕ → ℕ → List ℕ → List ℕ → Bool
read_both m wanted room bytes document_bytes =
    reading_is room (accepted (room ∷ length m ∷ [])) bytes (decoding m wanted room)
    && reading_is room (accepted (room ∷ length m ∷ [])) document_bytes (document_reading m wanted room)

-- how many bytes an encode says that it wrote; a refusal, none
encoded_size : EncodeAnswer → ℕ
encoded_size (encoded size) = size
encoded_size (not_encoded e) = 0

-- whether an encode's answer is this one, and it wrote as many bytes as the answer says
abbrev encoding_is : List ℕ → Encoding → Bool
encoding_is figures r =
    same_bytes (encode_figures r.answer) figures && eqb (length r.bytes) (encoded_size r.answer)

-- whether a start's answer is this one, and its state's record is these bytes
start_is : List ℕ → List ℕ → Started → Bool
start_is figures bytes (not_started e) = same_bytes (start_figures (not_started e)) figures
start_is figures bytes (started s) =
    same_bytes (start_figures (started s)) figures && same_bytes (record_bytes s) bytes

-- whether a strict answer is this one: width, height, channels, colour space, chunks, bytes; its figures are the last
-- two
strict_is : List ℕ → StrictAnswer → Bool
strict_is figures (StrictAnswer.accepted h chunks bytes) =
    same_bytes (0 ∷ h.width ∷ h.height ∷ channels_number h.channels ∷ color_space_number h.colorspace ∷ chunks ∷ bytes ∷ []) figures
    && same_bytes (strict_figures (StrictAnswer.accepted h chunks bytes)) (accepted (drop 5 figures))
strict_is figures (StrictAnswer.rejected e) = same_bytes (strict_figures (StrictAnswer.rejected e)) figures

-- an output after a step; one that ends leaves it
output_after : State → List ℕ → Step → List ℕ
output_after s out (Step.more s' bytes) = stepped_over s bytes out
output_after s out (Step.end verdict) = out

-- whether a case holds of the definitions
unfoldable pub holds : Case → Bool
unfolding same_test state_of state_after after_run resumed checkpointed begun encoded_size start_is strict_is output_after slot_of
    seven_bits_of seven_bits group_below read_more read_first read_number header_bytes header_from after_color_space after_channels
    header_of chunk_from chunk_at colour_of times_of size_of same_bytes repeated closing start_place pixels_brought pixel_after
    place_after bytes_of move_by move reading reading_into after_wanted after_header whole_reading decoder_stores decoder_keeps
    decoder_reads_rgba fits_diff fits_luma diff_chunk luma_chunk colour_chunk start_pen run_ended slot_holds differing_chunk
    pixel_chunks pen_after chunks_from chunk_bytes chunks_bytes pixel_from pixels_from chunks_of stream_of encoding_into
    after_length after_dimensions picture_header after_space after_picture_header encoding well_formed start_wanted start_header
    starting step_by step running pixels_bytes record_bytes recording recorded_over rest_of after_number accept_number
    fault_offset accept_state read_slots read_positions read_wanted read_record strict_closed strict_closing strict_counted
    strict_by strict_move strict_from strict_header strict runs_fit_in names_filled filled_after chunk_due indexes_filled visits_on
    visits header_trace trace filled_in
holds (streams width height channels colorspace picture stream) =
    let r = encoding picture width height colorspace 1000000 in
    let opened = accepted (width ∷ height ∷ channels_number channels ∷ colorspace ∷ []) in
    encoding_is (accepted (length stream ∷ [])) r
    && (same_bytes r.bytes stream
    && (same_bytes (header_figures (header_of stream)) opened
    && read_both stream (channels_number channels) (length picture) picture picture))
holds (encodes_into width height colorspace picture room figures) =
    encoding_is figures (encoding picture width height colorspace room)
holds (decodes_into m wanted room figures out) = reading_is room figures out (decoding m wanted room)
holds (documents_into m wanted room figures out) = reading_is room figures out (document_reading m wanted room)
holds (reads_into m wanted room bytes document_bytes) = read_both m wanted room bytes document_bytes
holds (leaves_after m wanted room rest) = same_bytes (rest_of m (decoding m wanted room).answer) rest
holds (opens m figures) = same_bytes (header_figures (header_of m)) figures
holds (checks m figures) = strict_is figures (strict m)
holds (traces m fit count positions) =
    same_test (runs_fit m) fit
    && (eqb (chunk_count m) count && same_bytes (map (λ (v : Visit). v.place.at) (trace m)) positions)
holds (fills m each) = same_test (indexes_filled m) each
holds (starts m number wanted figures) =
    start_is figures (take 14 m ++ drop 14 (record_bytes (state_from 1 1 Rgb number wanted))) (starting m number wanted)
holds (steps_on s m room figures out) =
    same_bytes (step_figures (step s m room)) figures && same_bytes (output_after s (held room) (step s m room)) out
holds (counts n bytes) =
    same_bytes (seven_bits n) bytes && same_bytes (number_figures (read_number bytes 0)) (accepted (n ∷ length bytes ∷ []))
holds (counts_back start bytes figures) = same_bytes (number_figures (read_number bytes start)) figures
holds (records s room figures out) =
    same_bytes (record_figures (recording s room)) figures && same_bytes (recorded_over s (held room)) out
holds (reads_back expected bytes figures) = start_is figures bytes (read_record expected bytes)
holds (takes_up m wanted size steps found out) =
    same_bytes (begun m steps (size + 1) size found (starting m 7 wanted)) out
holds (differ xs ys) = not (same_bytes xs ys)

-- the test holds of each case of a list
unfoldable pub all_hold : List Case → Bool
all_hold [] = true
all_hold (c ∷ cs) = holds c && all_hold cs
