-- A contract determines its function: any two results that it allows, on the same arguments, are equal.
use Rattle.std.specs.Prelude.{List, ◌≡◌, ℕ}
use contract.Lifetimes.{Lfts}
use denote.Triple.Clauses.{Lasts, at_exit}
use borrow.Fn.Kinds.{ParamKind, ResultKind, Out, Dens, res_t, ended_of}

-- ps: the parameters; r: the result; `allows`: the contract
module _ {n : ℕ} (ps : List (ParamKind n)) (r : ResultKind n) where
  -- what it says of a call's arguments, its result and the lent parts at exit
  abbrev pub Allows : Out n ps r → (κs : Lfts n) (a : Dens κs ps) → (res_t r κs).Denot → Lasts (ended_of n ps r) κs a → Type 0
  Allows allows κs a z e = allows κs a z (at_exit (ended_of n ps r) κs a e)

  -- two results that it allows, values of the result's type, are the same by `same`, and each lent part holds the
  -- same at exit
  abbrev pub DeterminedBy : ((κs : Lfts n) → (res_t r κs).Denot → (res_t r κs).Denot → Type 0) → Out n ps r → Type 0
  DeterminedBy same allows =
      (κs : Lfts n) (a : Dens κs ps) (z z' : (res_t r κs).Denot) (e e' : Lasts (ended_of n ps r) κs a)
      → r.is.Ok κs z → r.is.Ok κs z'
      → Allows allows κs a z e → Allows allows κs a z' e'
      → same κs z z' × (e ≡ e')

  -- what is returned is equal
  abbrev pub Determined : Out n ps r → Type 0
  Determined allows = DeterminedBy (λ κs z z'. z ≡ z') allows
