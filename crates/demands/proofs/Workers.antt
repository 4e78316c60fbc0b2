-- Any number of workers at once on one output, proved: none disturbs another, and each ends as the uncut decode.
-- Assumes nothing.
use mathlib.Core.Path.{◌≡◌, refl, sym, ◌∙◌, ap}
use mathlib.Core.List.{List, [], ◌∷◌, ◌++◌}
use Prim.Native.Nat.{ℕ, ◌^◌, ◌≤◌, ◌<◌, zero-le}
use native.Mathlib.Nat.{lt_of_not-le}
use native.Mathlib.Decide.{dec_le}
use native.Mathlib.Omega.{arith}
use lib.ListN.{length, take}
use Rattle.rules.specs.Reading.{Answer}
use Rattle.rules.specs.Decode.{decoding}
use Rattle.rules.specs.Step.{State, started, starting, more, end, step, stepped_over}
use Rattle.rules.specs.Record.{record_bytes, read_record}
use Rattle.demands.specs.TakeOver.{bytes_before}
use Rattle.demands.specs.Workers.{Partly, Crew, nobody, joins, takes_up, steps, stops_inside, Undisturbed}
use Rattle.rules.proofs.StepLaws.{needed}
use Rattle.demands.proofs.Course.{OnCourse, starts_on_course, starts_at_none, within, uncut_whole}
use Rattle.demands.proofs.Held.{Held, held_anew, ends_as_uncut, goes_as_uncut}
use Rattle.demands.proofs.Partly.{held_partly}
use Rattle.demands.proofs.TakeOver.{taken_so}

-- each of some
abbrev pub All : {A : Type 0} → (A → Type 0) → List A → Type 0
All P [] = Unit {0}
All P (x ∷ xs) = P x × All P xs

-- one of them
pub all_at : {A : Type 0} (P : A → Type 0) (left right : List A) (x : A) → All P (left ++ (x ∷ right)) → P x
all_at P [] right x all = all.0
all_at P (y ∷ left) right x all = all_at P left right x all.1

-- all of them, by what each has
pub all_map : {A : Type 0} (P Q : A → Type 0) → ((x : A) → P x → Q x) → (xs : List A) → All P xs → All Q xs
all_map P Q f [] all = tt
all_map P Q f (x ∷ xs) all = (f x all.0, all_map P Q f xs all.1)

-- all of them, with another in the place of one
pub all_but :
    {A : Type 0} (P : A → Type 0) (left right : List A) (x x' : A) → P x' → All P (left ++ (x ∷ right)) → All P (left ++ (x' ∷ right))
all_but P [] right x x' new all = (new, all.1)
all_but P (y ∷ left) right x x' new all = (all.0, all_but P left right x x' new all.1)

-- a worker on the uncut decode's course, with the output that it shares
pub record Working (m : List ℕ) (w : ℕ) (o₀ o : List ℕ) (s : State) : Type 0 where
  pub on_course : OnCourse m w s
  pub holds : Held m w o₀ o s
  -- where there is no room it has not stepped
  pub idle : length o₀ < needed s → bytes_before s ≡ 0

-- a crew: each of its workers, and any that starts now
record Manned (m : List ℕ) (number w : ℕ) (o₀ : List ℕ) (ss : List State) (o : List ℕ) : Type 0 where
  small : length m < 2 ^ 64
  fits : number < 2 ^ 64
  welcome : (t : State) → OnCourse m w t → bytes_before t ≡ 0 → Held m w o₀ o t
  each : All (Working m w o₀ o) ss

module _ (m : List ℕ) (number w : ℕ) (o₀ : List ℕ) where
  manned_nobody : length m < 2 ^ 64 → number < 2 ^ 64 → Manned m number w o₀ [] o₀
  manned_nobody small fits =
      record {
        small = small;
        fits = fits;
        welcome = λ t on none. held_anew m w o₀ t (rw none);
        each = tt;
      }

  manned_joins : (s : State) (ss : List State) (o : List ℕ) → Manned m number w o₀ ss o → starting m number w ≡ started s → Manned m number w o₀ (s ∷ ss) o
  manned_joins s ss o crew e =
      let on = starts_on_course m w number s crew.small crew.fits e in
      let none = starts_at_none m w number s e in
      record {
        small = crew.small;
        fits = crew.fits;
        welcome = crew.welcome;
        each = (record { on_course = on; holds = crew.welcome s on none; idle = λ few. none }, crew.each);
      }

  module _ (left right : List State) (s : State) (o : List ℕ) (crew : Manned m number w o₀ (left ++ (s ∷ right)) o) where
    worker : Working m w o₀ o s
    worker = all_at (Working m w o₀ o) left right s crew.each

    manned_takes_up : (s' : State) → read_record number (record_bytes s) ≡ started s' → Manned m number w o₀ (s' ∷ (left ++ (s ∷ right))) o
    manned_takes_up s' e =
        let same = (taken_so s worker.on_course e).1 in
        record { small = crew.small; fits = crew.fits; welcome = crew.welcome; each = (rw (← same) worker, crew.each) }

    manned_steps :
        (s' : State) (bytes : List ℕ) → step s m (length o) ≡ more s' bytes
        → Manned m number w o₀ (left ++ (s' ∷ right)) (stepped_over s bytes o)
    manned_steps s' bytes e =
        let next = goes_as_uncut m w o₀ o s worker.on_course worker.holds s' bytes e in
        record {
          small = crew.small;
          fits = crew.fits;
          welcome = λ t on none. next.others t on (crew.welcome t on none);
          each =
              all_but (Working m w o₀ (stepped_over s bytes o)) left right s s'
              (record { on_course = next.on_course; holds = next.holds; idle = λ few. absurd (omega (arith, next.roomy)) })
              (all_map (Working m w o₀ o) (Working m w o₀ (stepped_over s bytes o))
              (λ t a. record { on_course = a.on_course; holds = next.others t a.on_course a.holds; idle = a.idle })
              (left ++ (s ∷ right)) crew.each);
        }

    manned_stops_inside :
        (s' : State) (bytes o' : List ℕ) → step s m (length o) ≡ more s' bytes → Partly o (stepped_over s bytes o) o'
        → Manned m number w o₀ (left ++ (s ∷ right)) o'
    manned_stops_inside s' bytes o' e partly =
        let next = goes_as_uncut m w o₀ o s worker.on_course worker.holds s' bytes e in
        let keeps : (t : State) → OnCourse m w t → Held m w o₀ o t → Held m w o₀ o' t =
        λ t on held. held_partly o (stepped_over s bytes o) o' partly m w o₀ t held (next.others t on held) in
        record {
          small = crew.small;
          fits = crew.fits;
          welcome = λ t on none. keeps t on (crew.welcome t on none);
          each =
              all_map (Working m w o₀ o) (Working m w o₀ o')
              (λ t a. record { on_course = a.on_course; holds = keeps t a.on_course a.holds; idle = a.idle })
              (left ++ (s ∷ right)) crew.each;
        }

manned : {m : List ℕ} {number w : ℕ} {o₀ : List ℕ} {ss : List State} {o : List ℕ} → Crew m number w o₀ ss o → Manned m number w o₀ ss o
manned {m} {number} {w} {o₀} (nobody small fits) = manned_nobody m number w o₀ small fits
manned {m} {number} {w} {o₀} (joins {s} {ss} {o} crew e) = manned_joins m number w o₀ s ss o (manned crew) e
manned {m} {number} {w} {o₀} (takes_up left right s {s'} {o} crew e) = manned_takes_up m number w o₀ left right s o (manned crew) s' e
manned {m} {number} {w} {o₀} (steps left right s {s'} {o} {bytes} crew e) = manned_steps m number w o₀ left right s o (manned crew) s' bytes e
manned {m} {number} {w} {o₀} (stops_inside left right s {s'} {o} {bytes} o' crew e partly) =
    manned_stops_inside m number w o₀ left right s o (manned crew) s' bytes o' e partly

-- what the uncut decode writes, with room and without
reaches_uncut :
    (m : List ℕ) (w : ℕ) (o₀ o : List ℕ) (s : State) → Working m w o₀ o s
    → (bytes_before s ≤ length (decoding m w (length o₀)).bytes)
    × (take (bytes_before s) o ≡ take (bytes_before s) (decoding m w (length o₀)).bytes)
reaches_uncut m w o₀ o s a = go (dec_le (needed s) (length o₀))
  where
    go :
        Dec (needed s ≤ length o₀)
        → (bytes_before s ≤ length (decoding m w (length o₀)).bytes)
        × (take (bytes_before s) o ≡ take (bytes_before s) (decoding m w (length o₀)).bytes)
    go (yes fits) = rw (uncut_whole m w s a.on_course (length o₀) fits) (a.on_course.reaches, a.holds.before)
    go (no lacks) = rw (a.idle (lt_of_not-le lacks)) (zero-le, refl)

-- a worker is undisturbed
pub undisturbed : (m : List ℕ) (w : ℕ) (o₀ o : List ℕ) (s : State) → Working m w o₀ o s → Undisturbed m w o₀ s o
undisturbed m w o₀ o s a =
    let before = reaches_uncut m w o₀ o s a in
    record {
      same_length = a.holds.same_length;
      reaches = before.0;
      stand = before.1;
      within = within m w s a.on_course;
      further = λ s' bytes e. (goes_as_uncut m w o₀ o s a.on_course a.holds s' bytes e).further;
      nearer = λ s' bytes e. omega (arith, (goes_as_uncut m w o₀ o s a.on_course a.holds s' bytes e).fewer);
      ends = ends_as_uncut m w o₀ o s a.on_course a.holds;
    }

-- in every order of the workers' steps, each worker finds the uncut decode's bytes before its pixel, and ends as the
-- uncut decode
pub workers :
    {m : List ℕ} {number w : ℕ} {o₀ o : List ℕ} (left right : List State) (s : State) → Crew m number w o₀ (left ++ (s ∷ right)) o
    → Undisturbed m w o₀ s o
workers {m} {number} {w} {o₀} {o} left right s crew = undisturbed m w o₀ o s (worker m number w o₀ left right s o (manned crew))

-- once a worker has ended, nothing that the others do changes a byte
pub after_an_end :
    {m : List ℕ} {number w : ℕ} {o₀ o o' : List ℕ} (left right left' right' : List State) (s : State) (answer : Answer)
    → Crew m number w o₀ (left ++ (s ∷ right)) o → step s m (length o) ≡ end answer → Crew m number w o₀ (left' ++ (s ∷ right')) o' → o' ≡ o
after_an_end {m} left right left' right' s answer crew e later =
    let now = workers left right s crew in
    let then = workers left' right' s later in
    (then.ends answer (ap (step s m) (then.same_length ∙ sym now.same_length) ∙ e)).1 ∙ sym (now.ends answer e).1
