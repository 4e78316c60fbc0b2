-- The first frame accepted for an hour: which call brought it, that calls like those that came bring no other, and that
-- the order does not matter.
-- Assumes nothing.
use Rattle.std.specs.Prelude.{Option, None, Some}
use mathlib.Core.Bool.{Bool, true, false, cond}
use mathlib.Core.List.Memᴰ
use mathlib.Core.List.{List, [], ◌∷◌, Memᴰ}
use mathlib.Core.Logic.{◌⊎◌, inl, inr}
use mathlib.Core.Path.{◌≡◌, refl, sym, ◌∙◌, ap}
use Prim.Native.Nat.{ℕ, ◌*◌, ◌≤◌}
use borrow.Author.Tests.{eqb-true, eq-eqb}
use lib.Dec.{eqb}
use Rattle.totals.specs.Counting.{Call}
use Rattle.months.specs.Month.{brings, brought_for, earlier, first_for}
use Rattle.months.specs.Delivered.{Roomy, Alike, Among, OneEach}
use Rattle.months.proofs.Rooms.{none_is_not, brings_again}

-- one of some calls brings a frame for an hour
pub record Brought (n h : ℕ) (cs : List Call) (rain : List ℕ) : Type 0 where
  pub call : Call
  pub one_of_them : Memᴰ call cs
  pub brought : brought_for n h call ≡ Some rain

module _ (n h : ℕ) {rain : List ℕ} where
  -- a frame that comes first was brought by one of the calls
  pub first_brought : (cs : List Call) → first_for n cs h ≡ Some rain → Brought n h cs rain
  unfolding first_for
  first_brought [] is = absurd (none_is_not is)
  first_brought (c ∷ cs) is = go (first_brought cs) (brought_for n h c) refl is
    where
      go :
          (first_for n cs h ≡ Some rain → Brought n h cs rain) → (o : Option (List ℕ)) → brought_for n h c ≡ o
          → earlier o (first_for n cs h) ≡ Some rain → Brought n h (c ∷ cs) rain
      go later None this is =
          let b = later is in
          record { call = b.call; one_of_them = Memᴰ.tail b.one_of_them; brought = b.brought }
      go later (Some x) this is = record { call = c; one_of_them = Memᴰ.head refl; brought = this ∙ is }

  -- where one of the calls brings a frame, one comes first
  pub brought_first : (cs : List Call) → Brought n h cs rain → first_for n cs h ≡ None → ⊥
  unfolding first_for
  brought_first [] b is = Memᴰ.not-nil b.one_of_them
  brought_first (c ∷ cs) b is =
      go (brought_first cs) (brought_for n h c) refl is (Memᴰ.cases_cons b.one_of_them)
    where
      go :
          (Brought n h cs rain → first_for n cs h ≡ None → ⊥) → (o : Option (List ℕ)) → brought_for n h c ≡ o
          → earlier o (first_for n cs h) ≡ None → (b.call ≡ c) ⊎ Memᴰ b.call cs → ⊥
      go later None this is (inl same) = none_is_not (sym this ∙ ap (brought_for n h) (sym same) ∙ b.brought)
      go later None this is (inr there) =
          later (record { call = b.call; one_of_them = there; brought = b.brought }) is
      go later (Some x) this is there = none_is_not (sym is)

  -- what a call brings for an hour it brings, and its hour is that
  pub brought_own : (c : Call) → brought_for n h c ≡ Some rain → (c.hour ≡ h) × (brings n c ≡ Some rain)
  brought_own c is = go (eqb c.hour h) refl is
    where
      go :
          (same : Bool) → eqb c.hour h ≡ same → cond same (brings n c) None ≡ Some rain
          → (c.hour ≡ h) × (brings n c ≡ Some rain)
      go true same is = (eqb-true c.hour h same, is)
      go false same is = absurd (none_is_not is)

  -- a call like one that brings a frame brings it too, in a buffer that has the room
  pub like_brings :
      (c d : Call) → Alike c d → n * 4 ≤ c.room → brought_for n h d ≡ Some rain → brought_for n h c ≡ Some rain
  like_brings c d alike roomy is =
      let own = brought_own d is in
      rw (eq-eqb c.hour h (alike.same_hour ∙ own.0)) (brings_again n c d alike.same_message roomy own.1)

-- every frame that some calls bring others bring too
abbrev pub Within : ℕ → List Call → List Call → Type 0
Within n ds cs = (h : ℕ) (rain : List ℕ) → Brought n h ds rain → Brought n h cs rain

-- so it is with calls among others, where those have the room
pub among_within : (n : ℕ) (ds cs : List Call) → Roomy n cs → Among ds cs → Within n ds cs
among_within n ds cs roomy among h rain b =
    let like = among b.call b.one_of_them in
    record {
      call = like.call;
      one_of_them = like.one_of_them;
      brought =
          like_brings n h like.call b.call like.alike (roomy like.call like.one_of_them) b.brought;
    }

-- then where none comes first of those none comes of these
none_within :
    (n : ℕ) (ds cs : List Call) → Within n ds cs → (h : ℕ) → first_for n cs h ≡ None → first_for n ds h ≡ None
none_within n ds cs within h is = go (first_for n ds h) refl
  where
    go : (o : Option (List ℕ)) → first_for n ds h ≡ o → first_for n ds h ≡ None
    go None first = first
    go (Some rain) first = absurd (brought_first n h cs (within h rain (first_brought n h ds first)) is)

-- and these, after those, bring nothing new
pub first_again :
    (n : ℕ) (ds cs : List Call) → Within n ds cs → (h : ℕ)
    → earlier (first_for n cs h) (first_for n ds h) ≡ first_for n cs h
first_again n ds cs within h = go (first_for n cs h) refl
  where
    go : (o : Option (List ℕ)) → first_for n cs h ≡ o → earlier o (first_for n ds h) ≡ o
    go None first = none_within n ds cs within h first
    go (Some rain) first = refl

-- the same calls, with one message for each hour, bring the same frames
pub first_same :
    (n : ℕ) (cs ds : List Call) → OneEach cs → Roomy n cs → Roomy n ds → Among cs ds → Among ds cs
    → (h : ℕ) → first_for n ds h ≡ first_for n cs h
first_same n cs ds one roomy roomy' there back h = go (first_for n cs h) refl (first_for n ds h) refl
  where
    go :
        (a : Option (List ℕ)) → first_for n cs h ≡ a → (b : Option (List ℕ)) → first_for n ds h ≡ b
        → first_for n ds h ≡ first_for n cs h
    go None e b e' = none_within n ds cs (among_within n ds cs roomy back) h e ∙ sym e
    go (Some x) e None e' = e' ∙ sym (none_within n cs ds (among_within n cs ds roomy' there) h e')
    go (Some x) e (Some y) e' =
        let c = first_brought n h cs e in
        let d = first_brought n h ds e' in
        let like = back d.call d.one_of_them in
        let hours : c.call.hour ≡ d.call.hour =
        (brought_own n h c.call c.brought).0 ∙ sym (brought_own n h d.call d.brought).0 in
        let messages : c.call.message ≡ d.call.message =
        one c.call like.call c.one_of_them like.one_of_them (hours ∙ sym like.alike.same_hour)
        ∙ like.alike.same_message in
        let alike : Alike c.call d.call = record { same_hour = hours; same_message = messages } in
        let brings = like_brings n h c.call d.call alike (roomy c.call c.one_of_them) d.brought in
        e' ∙ sym brings ∙ c.brought ∙ sym e
