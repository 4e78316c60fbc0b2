-- A checkpoint that lost bytes at its end, or gained some, proved: it is refused with the offset of what is wrong, under
-- any number.
-- Assumes nothing.
use mathlib.Core.List.{List, ◌∷◌, ◌++◌}
use mathlib.Core.Path.{◌≡◌}
use Prim.Native.Nat.{ℕ, ◌<◌}
use lib.ListN.{length, take}
use Rattle.pixel.specs.declared.error.Error.TheVariants.{UnexpectedBufferEnd, BadState}
use Rattle.rules.specs.Step.{State, not_started}
use Rattle.rules.specs.Record.{record_bytes, read_record}
use Rattle.rules.specs.Damage.{cut_offset}
use Rattle.rules.proofs.RecordLaws.{record_then_more}
use Rattle.rules.proofs.RecordCutLaws.{record_cut}
use Rattle.demands.specs.TakeOver.{Life}
use Rattle.demands.proofs.TakeOver.{lived}

module _ {m : List ℕ} {number w : ℕ} {s : State} {o b : List ℕ} (life : Life m number w s o b) (expected : ℕ) where
  -- cut off after n bytes it is 1, where the field starts that is cut
  pub cut_checkpoint :
      (n : ℕ) → n < length (record_bytes s) → read_record expected (take n (record_bytes s)) ≡ not_started (UnexpectedBufferEnd (cut_offset s n))
  cut_checkpoint n short =
      let l = lived life in
      record_cut s l.on_course.typed l.on_course.well expected n short

  -- with more bytes after it it is 9, where these begin
  pub longer_checkpoint :
      (byte : ℕ) (more : List ℕ) → read_record expected (record_bytes s ++ byte ∷ more) ≡ not_started (BadState (length (record_bytes s)))
  longer_checkpoint byte more =
      let l = lived life in
      record_then_more s l.on_course.typed l.on_course.well expected byte more
