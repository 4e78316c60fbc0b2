-- What the loops' own parts ask of one another; nothing that a public contract cites.
use Rattle.std.specs.Prelude.{List, ◌≡◌, ℕ, ◌+◌, ◌*◌, ◌≤◌, ◌<◌, length, take}
use Rattle.pixel.specs.declared.Pixel.{Pixel}
use Rattle.pixel.specs.declared.types.Channels.{Channels}
use Rattle.pixel.specs.Packed.{unpacked}
use Rattle.header.specs.declared.Header.{Header}
use Rattle.header.specs.Header.{pixel_count}
use Rattle.rules.specs.Bytes.{pasted, repeated}
use Rattle.rules.specs.Reading.{Place}
use Rattle.rules.specs.Decode.{decoder_keeps}
use Rattle.walk.specs.declared.lanes.Lanes.{Lanes}
use Rattle.walk.specs.declared.spot.Reached.{Reached}
use Rattle.walk.specs.declared.spot.Spot.{Spot}
use Rattle.walk.specs.Lanes.{pixel_in}
use Rattle.walk.specs.Walking.{Walk, walking}

-- the bytes that are written of a pixel, with that many channels wanted
abbrev pub bytes_in : ℕ → Pixel → List ℕ
bytes_in channels p = take channels p.rgba

-- a packed pixel fills an output from `at` to `to`, which is no further than `end`: whole pixels
pub record Fills (p at end : ℕ) (out : List ℕ) (to : ℕ) (out' : List ℕ) : Type 0 where
  pub times : ℕ
  pub on : to ≡ at + times * 4
  pub within : to ≤ end
  pub filled : out' ≡ pasted at (repeated times (bytes_in 4 (unpacked p))) out

-- `size` bytes are filled once where they fit, and else none
abbrev pub FillsOnce : ℕ → ℕ → ℕ → ℕ → Type 0
FillsOnce size at end to = (at + size ≤ end → to ≡ at + size) × (end < at + size → to ≡ at)

-- a header of that source, of a picture with `missing` pixels after the first `from`
pub record Of (source : Channels) (missing from : ℕ) (header : Header) : Type 0 where
  pub counted : pixel_count header ≡ from + missing
  pub sourced : header.channels ≡ source

-- a spot lies within message and output
pub record Lies (wanted : ℕ) (message : List ℕ) (missing : ℕ) (spot : Spot) (out : List ℕ) : Type 0 where
  pub small : missing ≤ 400000000
  pub few_steps : spot.spare ≤ 400000001
  pub inside : spot.at ≤ length message
  pub within : spot.done ≤ missing
  pub room : missing * wanted ≤ length out

-- and its pixel is one that a chunk leaves
pub record Stands (wanted : ℕ) (message : List ℕ) (missing : ℕ) (spot : Spot) (out : List ℕ) : Type 0 where
  pub lies : Lies wanted message missing spot out
  pub kept : decoder_keeps wanted (pixel_in spot.lanes) ≡ pixel_in spot.lanes

-- the spot that a loop's locals are
abbrev pub spot_at : ℕ → ℕ → ℕ → Lanes → Spot
spot_at at done spare l = record { at = at; done = done; spare = spare; lanes = l }

-- the place of a spot
abbrev pub place_in : ℕ → Spot → List Pixel → Place
place_in from spot slots =
    record { at = spot.at; pixel = from + spot.done; current = pixel_in spot.lanes; slots = slots }

-- where a walk came to
abbrev pub reached_in : ℕ → Reached → List Pixel → List ℕ → Walk
reached_in from end slots out =
    record { cut = end.cut; spare = end.spot.spare; place = place_in from end.spot slots; out = out }

module _ (wanted : ℕ) (message : List ℕ) (source : Channels) (missing : ℕ) where
  -- from one spot to another: what is left to walk there is what was left here
  pub record Onward
      (spot : Spot) (slots : List Pixel) (out : List ℕ) (spot' : Spot) (slots' : List Pixel) (out' : List ℕ) : Type 0 where
    pub stands : Stands wanted message missing spot' out'
    pub whole :
        (from : ℕ) (header : Header) → Of source missing from header
        → walking header wanted message from spot.spare (place_in from spot slots) out
        ≡ walking header wanted message from spot'.spare (place_in from spot' slots') out'

  -- from a spot to the end of the walk
  pub record Ends
      (spot : Spot) (slots : List Pixel) (out : List ℕ) (end : Reached) (slots' : List Pixel) (out' : List ℕ) : Type 0 where
    pub within : end.spot.done ≤ missing
    pub whole :
        (from : ℕ) (header : Header) → Of source missing from header
        → walking header wanted message from spot.spare (place_in from spot slots) out ≡ reached_in from end slots' out'

-- quick rounds may begin at a byte position with a packed pixel
abbrev pub Begins : ℕ → List ℕ → ℕ → ℕ → ℕ → ℕ → List ℕ → Type 0
Begins wanted message missing at spare current out =
    (l : Lanes) → (pixel_in l ≡ unpacked current) → Stands wanted message missing (spot_at at 0 spare l) out

-- and from there they come to a spot
abbrev pub Comes : ℕ → List ℕ → Channels → ℕ → ℕ → ℕ → ℕ → List Pixel → List ℕ → Spot → List Pixel → List ℕ → Type 0
Comes wanted message source missing at spare current slots out spot slots' out' =
    (l : Lanes) × (pixel_in l ≡ unpacked current)
    × Onward wanted message source missing (spot_at at 0 spare l) slots out spot slots' out'
