-- The order of flushing, proved: where a record is saved only of a state that a flush has followed, every take-up
-- after a crash is one of demand 3.
-- Assumes nothing.
use mathlib.Core.List.Memᴰ
use mathlib.Core.List.{List, [], ◌∷◌, Memᴰ}
use mathlib.Core.Logic.{◌⊎◌, inl, inr}
use mathlib.Core.Path.{◌≡◌, refl, sym, ◌∙◌, ap}
use Prim.Native.Nat.{ℕ, zero, suc, ◌^◌, ◌≤◌, ◌<◌}
use native.Mathlib.Omega.{arith}
use lib.ListN.{length, get_or, take, length-take}
use lib.Seq.{get_or-take, ext_get_or}
use Rattle.rules.specs.Step.{State, started, starting, Step, more, end, step, stepped_over, going, run_on, running}
use Rattle.rules.specs.Record.{record_bytes, read_record}
use Rattle.demands.specs.TakeOver.{bytes_before, Life, steps_left, EndsAsUncut}
use Rattle.demands.specs.TakeOver as life
use Rattle.demands.specs.Workers.{Partly}
use Rattle.demands.specs.Flushing.{Shown, Torn, Stored, begun, stepped, flushed, saves, taken_up}
use Rattle.demands.proofs.Course.{whole, same_needed}
use Rattle.demands.proofs.Held.{goes_as_uncut}
use Rattle.demands.proofs.TakeOver.{readable, taken_so, lived, take_over}

module _ (m : List ℕ) (w : ℕ) where
  -- an output has the whole reading's bytes before a state's pixel
  abbrev pub Stands : State → List ℕ → Type 0
  Stands t x = take (bytes_before t) x ≡ take (bytes_before t) (whole m w).bytes

  -- what a crash leaves will do for each record saved for which every output will do that may come back
  pub torn_stands :
      (o o' : List ℕ) (since : List (List ℕ)) (saved : List State) → Torn o since saved o' → (t : State) → Memᴰ t saved
      → ((x : List ℕ) → Memᴰ x (o ∷ since) → Stands t x) → Stands t o'
  torn_stands o o' since saved torn t is stands =
      ext_get_or 0 (take n o') (take n (whole m w).bytes)
      (simp length-take (omega (arith, torn.same_length, simp length-take at (ap length (stands o (Memᴰ.head refl))))))
      (λ i h. go i (omega (arith, simp length-take at h)) (torn.each i))
    where
      n : ℕ
      n = bytes_before t

      go :
          (i : ℕ) → i < n → Shown (o ∷ since) i (get_or o' i 0) ⊎ ((r : State) → Memᴰ r saved → bytes_before r ≤ i)
          → get_or (take n o') i 0 ≡ get_or (take n (whole m w).bytes) i 0
      go i h (inl shown) =
          get_or-take n o' i 0 h
          ∙ shown.2
          ∙ sym (get_or-take n shown.0 i 0 h)
          ∙ ap (λ (l : List ℕ). get_or l i 0) (stands shown.0 shown.1)
      go i h (inr later) = absurd (omega (arith, later t is))

module _ (m : List ℕ) (number w : ℕ) where
  -- a state that a history of demand 3 has reached, for which each of some outputs will do
  record Sure (outputs : List (List ℕ)) (t : State) : Type 0 where
    there : List ℕ
    found : List ℕ
    life : Life m number w t there found
    stands : (x : List ℕ) → Memᴰ x outputs → Stands m w t x

  -- a history over a store is one of demand 3, and each output that may come back will do for each record
  record Kept (s : State) (o b : List ℕ) (since : List (List ℕ)) (f : State) (saved : List State) : Type 0 where
    life : Life m number w s o b
    sure : (t : State) → Memᴰ t (f ∷ saved) → Sure (o ∷ since) t

  -- the same state, for other outputs
  sure_with :
      (outputs others : List (List ℕ)) (t : State) → Sure outputs t → ((x : List ℕ) → Memᴰ x others → Stands m w t x) → Sure others t
  sure_with outputs others t a stands =
      record { there = a.there; found = a.found; life = a.life; stands = stands }

  -- one output more
  sure_cons : (x : List ℕ) (outputs : List (List ℕ)) (t : State) → Sure outputs t → Stands m w t x → Sure (x ∷ outputs) t
  sure_cons x outputs t a new = sure_with outputs (x ∷ outputs) t a (λ y is. go y (Memᴰ.cases_cons is))
    where
      go : (y : List ℕ) → (y ≡ x) ⊎ Memᴰ y outputs → Stands m w t y
      go y (inl e) = rw e new
      go y (inr is) = a.stands y is

  -- where it stands, what was reached stands
  sure_here : (s : State) (o b : List ℕ) → Life m number w s o b → Sure (o ∷ []) s
  sure_here s o b l =
      record {
        there = o;
        found = b;
        life = l;
        stands = λ x is. rw (Memᴰ.eq_of_singleton is) (lived l).holds.before;
      }

  module _ (s : State) (o b : List ℕ) (since : List (List ℕ)) (f : State) (saved : List State) (k : Kept s o b since f saved) where
    -- a step leaves standing what stood
    step_stands :
        (s' : State) (bytes : List ℕ) → step s m (length o) ≡ more s' bytes
        → (t : State) → Memᴰ t (f ∷ saved) → Stands m w t (stepped_over s bytes o)
    step_stands s' bytes e t is =
        let l = lived k.life in
        let a = k.sure t is in
        let on = (lived a.life).on_course in
        ((goes_as_uncut m w b o s l.on_course l.holds s' bytes e).others t on
        (record {
          same_length = l.holds.same_length;
          before = a.stands o (Memᴰ.head refl);
          beyond = l.holds.beyond;
          short = λ few. l.holds.short (rw (same_needed m w s t l.on_course on) few);
        })
        ).before

    kept_stepped : (s' : State) (bytes : List ℕ) → step s m (length o) ≡ more s' bytes → Kept s' (stepped_over s bytes o) b (o ∷ since) f saved
    kept_stepped s' bytes e =
        record {
          life = life.stepped k.life e;
          sure = λ t is. sure_cons (stepped_over s bytes o) (o ∷ since) t (k.sure t is) (step_stands s' bytes e t is);
        }

    kept_flushed : Kept s o b [] s saved
    kept_flushed = record { life = k.life; sure = λ t is. go t (Memᴰ.cases_cons is) }
      where
        go : (t : State) → (t ≡ s) ⊎ Memᴰ t saved → Sure (o ∷ []) t
        go t (inl e) = rw e (sure_here s o b k.life)
        go t (inr is) =
            let a = k.sure t (Memᴰ.tail is) in
            sure_with (o ∷ since) (o ∷ []) t a (λ x one. rw (Memᴰ.eq_of_singleton one) (a.stands o (Memᴰ.head refl)))

    kept_saves : Kept s o b since f (f ∷ saved)
    kept_saves = record { life = k.life; sure = λ t is. go t (Memᴰ.cases_cons is) }
      where
        go : (t : State) → (t ≡ f) ⊎ Memᴰ t (f ∷ saved) → Sure (o ∷ since) t
        go t (inl e) = k.sure t (Memᴰ.head e)
        go t (inr is) = k.sure t is

    module _ (o' : List ℕ) (torn : Torn o since saved o') where
      -- what a crash leaves will do for each record saved
      stands_torn : (t : State) → Memᴰ t saved → Stands m w t o'
      stands_torn t is = torn_stands m w o o' since saved torn t is (k.sure t (Memᴰ.tail is)).stands

      -- so a record saved may be taken up on it, as demand 3 has it
      torn_life : (r : State) → Memᴰ r saved → Life m number w r o' o'
      torn_life r is =
          let a = k.sure r (Memᴰ.tail is) in
          let l = lived a.life in
          life.taken_up a.life o' (stands_torn r is ∙ sym l.holds.before) (readable r l.on_course l.under)

      kept_taken_up : (r s' : State) → Memᴰ r saved → read_record number (record_bytes r) ≡ started s' → Kept s' o' o' (o ∷ since) s' saved
      kept_taken_up r s' is e =
          let same = (taken_so r (lived (torn_life r is)).on_course e).1 in
          rw (← same) (record { life = torn_life r is; sure = λ t at. go t (Memᴰ.cases_cons at) })
        where
          among : (t : State) → Memᴰ t saved → Sure (o' ∷ o ∷ since) t
          among t at = sure_cons o' (o ∷ since) t (k.sure t (Memᴰ.tail at)) (stands_torn t at)

          go : (t : State) → (t ≡ r) ⊎ Memᴰ t saved → Sure (o' ∷ o ∷ since) t
          go t (inl e) = rw e (among r is)
          go t (inr at) = among t at

  kept_begun :
      (s : State) (o : List ℕ) → length m < 2 ^ 64 → number < 2 ^ 64 → starting m number w ≡ started s
      → Kept s o o [] s (s ∷ [])
  kept_begun s o small fits e =
      let l = life.begun o small fits e in
      record { life = l; sure = λ t is. go l t (Memᴰ.cases_cons is) }
    where
      go : Life m number w s o o → (t : State) → (t ≡ s) ⊎ Memᴰ t (s ∷ []) → Sure (o ∷ []) t
      go l t (inl e) = rw e (sure_here s o o l)
      go l t (inr is) = rw (Memᴰ.eq_of_singleton is) (sure_here s o o l)

kept :
    {m : List ℕ} {number w : ℕ} {s f : State} {o b : List ℕ} {since : List (List ℕ)} {saved : List State}
    → Stored m number w s o b since f saved → Kept m number w s o b since f saved
kept {m} {number} {w} (begun {s} o small fits e) = kept_begun m number w s o small fits e
kept {m} {number} {w} (stepped {s} {s'} {f} {o} {b} {bytes} {since} {saved} h e) = kept_stepped m number w s o b since f saved (kept h) s' bytes e
kept {m} {number} {w} (flushed {s} {f} {o} {b} {since} {saved} h) = kept_flushed m number w s o b since f saved (kept h)
kept {m} {number} {w} (saves {s} {f} {o} {b} {since} {saved} h) = kept_saves m number w s o b since f saved (kept h)
kept {m} {number} {w} (taken_up {s} {s'} {f} {o} {b} {since} {saved} h r is o' torn e) =
    kept_taken_up m number w s o b since f saved (kept h) o' torn r s' is e

module _ {m : List ℕ} {number w : ℕ} {s f : State} {o b : List ℕ} {since : List (List ℕ)} {saved : List State}
    (h : Stored m number w s o b since f saved) where
  -- every history over a store is one of demand 3, whatever its crashes left
  pub stored_lives : Life m number w s o b
  stored_lives = (kept h).life

  -- whatever a crash leaves, each record saved may be taken up on it, as demand 3 has it
  pub crash_lives : (r : State) → Memᴰ r saved → (o' : List ℕ) → Torn o since saved o' → Life m number w r o' o'
  crash_lives r is o' torn = torn_life m number w s o b since f saved (kept h) o' torn r is

  -- and then the end comes within the pixels left plus one steps, as the uncut decode's
  pub crash_ends :
      (r : State) → Memᴰ r saved → (o' : List ℕ) → Torn o since saved o' → EndsAsUncut m w o' (running m (steps_left r) r o')
  crash_ends r is o' torn = take_over (crash_lives r is o' torn)

-- a run that has more to do leads a history on
run_stored :
    {m : List ℕ} {number w : ℕ} (n : ℕ) {s f : State} {o b : List ℕ} {since : List (List ℕ)} {saved : List State} → Stored m number w s o b since f saved
    → (s' : State) (o' : List ℕ) → running m n s o ≡ going s' o' → (later : List (List ℕ)) × Stored m number w s' o' b later f saved
unfolding running
run_stored zero {s} {f} {o} {b} {since} {saved} h s' o' e =
    let same : s ≡ s' = cc in
    let kept_out : o ≡ o' = cc in
    (since, rw (← same, ← kept_out) h)
run_stored {m} {number} {w} (suc n) {s} {f} {o} {b} {since} {saved} h s' o' e =
    go (λ t bytes is e'. run_stored n (stepped h is) s' o' e') (step s m (length o)) refl e
  where
    go :
        ((t : State) (bytes : List ℕ) → step s m (length o) ≡ more t bytes → running m n t (stepped_over s bytes o) ≡ going s' o'
        → (later : List (List ℕ)) × Stored m number w s' o' b later f saved)
        → (v : Step) → step s m (length o) ≡ v → run_on (running m n) s o v ≡ going s' o'
        → (later : List (List ℕ)) × Stored m number w s' o' b later f saved
    go on (more t bytes) is e = on t bytes is e
    go on (end answer) is e = absurd (let z : ◌≡◌ {A = ℕ} 0 1 = cc in omega arith)

-- the loop of a host that runs, then keeps the output, then saves the record
pub checkpointed :
    {m : List ℕ} {number w : ℕ} (n : ℕ) {s f : State} {o b : List ℕ} {since : List (List ℕ)} {saved : List State} → Stored m number w s o b since f saved
    → (s' : State) (o' : List ℕ) → running m n s o ≡ going s' o' → Stored m number w s' o' b [] s' (s' ∷ saved)
checkpointed n h s' o' e = saves (flushed (run_stored n h s' o' e).1)

-- a crash may leave what the store showed at any moment since the last flush: a killed process the last, a power cut
-- that keeps no later write the first
pub as_shown :
    (o : List ℕ) (since : List (List ℕ)) (saved : List State) (x : List ℕ) → Memᴰ x (o ∷ since) → length x ≡ length o
    → Torn o since saved x
as_shown o since saved x is long = record { same_length = long; each = λ i. inl (x, is, refl) }

-- a step that stops inside leaves what a crash after it may leave
pub stopped_inside :
    (o new o' : List ℕ) (since : List (List ℕ)) (saved : List State) → length new ≡ length o → Partly o new o'
    → Torn new (o ∷ since) saved o'
stopped_inside o new o' since saved long partly =
    record { same_length = partly.same_length ∙ sym long; each = λ i. go i (partly.each i) }
  where
    go :
        (i : ℕ) → (get_or o' i 0 ≡ get_or o i 0) ⊎ (get_or o' i 0 ≡ get_or new i 0)
        → Shown (new ∷ o ∷ since) i (get_or o' i 0) ⊎ ((r : State) → Memᴰ r saved → bytes_before r ≤ i)
    go i (inl e) = inl (o, Memᴰ.tail (Memᴰ.head refl), e)
    go i (inr e) = inl (new, Memᴰ.head refl, e)
