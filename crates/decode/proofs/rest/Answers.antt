-- `decode::rest` meets its contract: the part from a place on is all that follows it, and lies there.
use Rattle.std.proofs.Common.{rules, ◌≡◌, ℕ, ◌+◌, ◌-◌, List, length, min, take, drop}
use Rattle.std.proofs.lemmas.List.{drop_min}
use Rattle.std.proofs.Math.Seq.{drop-length}
use Rattle.std.specs.Prelude.{Result, Ok, Err, MatchResult}
use mathlib.Core.Path.{ap, ◌∙◌}
use Rattle.pixel.specs.declared.error.Error.{Error}
use Rattle.rules.specs.Decode.{rest_of}
use Rattle.rules.proofs.PastingLaws.{whole_tail}
use Rattle.decode.specs.declared.Decoded.{Decoded}
use Rattle.decode.specs.Decoded.{answer_of, rest_at}
use Rattle.decode.proofs.rest.Goals as goal

-- the place that `map_or` gives
abbrev IsUsed : List ℕ → Result Decoded Error → ℕ → Type 0
IsUsed m answer used =
    MatchResult answer (λ (done : Decoded). used ≡ min done.used (length m)) (λ (e : Error). used ≡ length m)

follows :
    (m : List ℕ) (answer : Result Decoded Error) (used : ℕ) → IsUsed m answer used
    → (used ≡ rest_at (length m) (answer_of answer))
    × (take (length m - used) (drop used m) ≡ rest_of m (answer_of answer))
unfolding rest_of
follows m (Err e) used is = (is, rw is (whole_tail m _ ∙ drop-length m))
follows m (Ok done) used is = (is, rw is (whole_tail m _ ∙ drop_min done.used m))

pub returns : goal.returns
returns c =
    let m = c.args.message in
    let is : IsUsed m.now c.args.decoded c.map_or-used.result = search rules in
    let e = follows m.now c.args.decoded _ is in
    (ap (λ (n : ℕ). (m.ref_ptr.0, n + m.ref_ptr.1)) e.0, e.1)
