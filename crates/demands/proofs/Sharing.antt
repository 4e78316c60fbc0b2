-- Workers at once over a store, proved: where each saves a record only of a state that its own flush has followed, none
-- disturbs another, before a crash and after it, and each ends as the uncut decode.
-- Assumes nothing.
use mathlib.Core.Path.{◌≡◌, refl, sym, ◌∙◌}
use mathlib.Core.List.Memᴰ
use mathlib.Core.List.{List, [], ◌∷◌, ◌++◌, Memᴰ}
use mathlib.Core.Logic.{◌⊎◌, inl, inr}
use Prim.Native.Nat.{ℕ, ◌^◌, ◌<◌}
use native.Mathlib.Omega.{arith}
use lib.ListN.{length}
use Rattle.rules.specs.Step.{State, started, starting, start_state, more, step, stepped_over}
use Rattle.rules.specs.Record.{record_bytes, read_record}
use Rattle.rules.proofs.StepLaws.{needed}
use Rattle.demands.specs.TakeOver.{bytes_before}
use Rattle.demands.specs.Workers.{Partly, Undisturbed}
use Rattle.demands.specs.Flushing.{Torn}
use Rattle.demands.specs.Sharing.{Worker, Shared, nobody, joins, takes_up, steps, stops_inside, flushes, saves, crashes}
use Rattle.demands.proofs.Course.{OnCourse, starts_on_course, starts_at_none, starts_under, same_needed}
use Rattle.demands.proofs.Held.{Held, held_anew, Onward, goes_as_uncut}
use Rattle.demands.proofs.Partly.{held_partly}
use Rattle.demands.proofs.TakeOver.{readable, taken_so}
use Rattle.demands.proofs.Workers.{All, all_at, all_map, all_but, Working, undisturbed}
use Rattle.demands.proofs.Flushing.{Stands, torn_stands}

module _ (m : List ℕ) (number w : ℕ) where
  -- a state whose record may be taken up on each of some outputs, all as long as o
  record Safe (o : List ℕ) (outputs : List (List ℕ)) (t : State) : Type 0 where
    on_course : OnCourse m w t
    under : t.number ≡ number
    idle : length o < needed t → bytes_before t ≡ 0
    stands : (x : List ℕ) → Memᴰ x outputs → Stands m w t x

  -- one output more, which shows now
  safe_with :
      (o new : List ℕ) (since : List (List ℕ)) → length new ≡ length o → (t : State) → Safe o (o ∷ since) t → Stands m w t new
      → Safe new (new ∷ o ∷ since) t
  safe_with o new since long t a stands =
      record {
        on_course = a.on_course;
        under = a.under;
        idle = λ few. a.idle (rw (← long) few);
        stands = λ x is. go x (Memᴰ.cases_cons is);
      }
    where
      go : (x : List ℕ) → (x ≡ new) ⊎ Memᴰ x (o ∷ since) → Stands m w t x
      go x (inl e) = rw e stands
      go x (inr is) = a.stands x is

  -- a live worker: it works, and the record of its last flush may be saved
  record Sharing (b o : List ℕ) (since : List (List ℕ)) (v : Worker) : Type 0 where
    works : Working m w b o v.0
    under : v.0.number ≡ number
    safe : Safe o (o ∷ since) v.1

  -- each live worker, any that starts now, and each record saved
  record Intact (ws : List Worker) (o b : List ℕ) (since : List (List ℕ)) (saved : List State) : Type 0 where
    small : length m < 2 ^ 64
    fits : number < 2 ^ 64
    same_length : length o ≡ length b
    welcome : (t : State) → OnCourse m w t → bytes_before t ≡ 0 → Held m w b o t
    each : All (Sharing b o since) ws
    sure : (t : State) → Memᴰ t saved → Safe o (o ∷ since) t

  module _ (ws : List Worker) (o b : List ℕ) (since : List (List ℕ)) (saved : List State) (k : Intact ws o b since saved) where
    -- what a state that is safe holds of the output
    held_safe : (t : State) → Safe o (o ∷ since) t → Held m w b o t
    held_safe t a =
        let start = start_state t.header number t.wanted in
        let opened = a.on_course.opened number in
        let on = starts_on_course m w number start k.small k.fits opened in
        let none = k.welcome start on (starts_at_none m w number start opened) in
        record {
          same_length = k.same_length;
          before = a.stands o (Memᴰ.head refl);
          beyond = none.beyond;
          short = λ few. none.short (rw (same_needed m w start t on a.on_course) few);
        }

    works_safe : (t : State) → Safe o (o ∷ since) t → Working m w b o t
    works_safe t a =
        record { on_course = a.on_course; holds = held_safe t a; idle = λ few. a.idle (rw k.same_length few) }

    -- the output becomes one that does for each worker for which it did
    module _ (new : List ℕ) (long : length new ≡ length o) (keeps : (t : State) → OnCourse m w t → Held m w b o t → Held m w b new t) where
      safe_moved : (t : State) → Safe o (o ∷ since) t → Safe new (new ∷ o ∷ since) t
      safe_moved t a = safe_with o new since long t a (keeps t a.on_course (held_safe t a)).before

      sharing_moved : (v : Worker) → Sharing b o since v → Sharing b new (o ∷ since) v
      sharing_moved v a =
          record {
            works =
                record {
                  on_course = a.works.on_course;
                  holds = keeps v.0 a.works.on_course a.works.holds;
                  idle = a.works.idle;
                };
            under = a.under;
            safe = safe_moved v.1 a.safe;
          }

      intact_moved : Intact ws new b (o ∷ since) saved
      intact_moved =
          record {
            small = k.small;
            fits = k.fits;
            same_length = long ∙ k.same_length;
            welcome = λ t on none. keeps t on (k.welcome t on none);
            each = all_map (Sharing b o since) (Sharing b new (o ∷ since)) sharing_moved ws k.each;
            sure = λ t is. safe_moved t (k.sure t is);
          }

    intact_joins : (s : State) → starting m number w ≡ started s → Intact ((s, s) ∷ ws) o b since saved
    intact_joins s e =
        let on = starts_on_course m w number s k.small k.fits e in
        let none = starts_at_none m w number s e in
        let named = starts_under m w number s e in
        record {
          small = k.small;
          fits = k.fits;
          same_length = k.same_length;
          welcome = k.welcome;
          each = (
            record {
              works = record { on_course = on; holds = k.welcome s on none; idle = λ few. none };
              under = named;
              safe = record { on_course = on; under = named; idle = λ few. none; stands = λ x is. rw none };
            },
            k.each,
          );
          sure = k.sure;
        }

    intact_takes_up : (r s : State) → Memᴰ r saved → read_record number (record_bytes r) ≡ started s → Intact ((s, s) ∷ ws) o b since saved
    intact_takes_up r s is e =
        let a = k.sure r is in
        rw (← (taken_so r a.on_course e).1)
        (record {
          small = k.small;
          fits = k.fits;
          same_length = k.same_length;
          welcome = k.welcome;
          each = (record { works = works_safe r a; under = a.under; safe = a }, k.each);
          sure = k.sure;
        })

    intact_crashes : (o' : List ℕ) → Torn o since saved o' → Intact [] o' o' (o ∷ since) saved
    intact_crashes o' torn =
        record {
          small = k.small;
          fits = k.fits;
          same_length = refl;
          welcome = λ t on none. held_anew m w o' t (rw none);
          each = tt;
          sure = λ t is.
              let a = k.sure t is in
              safe_with o o' since torn.same_length t a (torn_stands m w o o' since saved torn t is a.stands);
        }

  module _ (left right : List Worker) (s f : State) (o b : List ℕ) (since : List (List ℕ)) (saved : List State)
      (k : Intact (left ++ ((s, f) ∷ right)) o b since saved) where
    one : Sharing b o since (s, f)
    one = all_at (Sharing b o since) left right (s, f) k.each

    module _ (s' : State) (bytes : List ℕ) (e : step s m (length o) ≡ more s' bytes) where
      next : Onward m w b o s s' (stepped_over s bytes o)
      next = goes_as_uncut m w b o s one.works.on_course one.works.holds s' bytes e

      intact_steps : Intact (left ++ ((s', f) ∷ right)) (stepped_over s bytes o) b (o ∷ since) saved
      intact_steps =
          let moved = intact_moved (left ++ ((s, f) ∷ right)) o b since saved k (stepped_over s bytes o)
          (next.holds.same_length ∙ sym k.same_length) next.others in
          let stays = all_at (Sharing b (stepped_over s bytes o) (o ∷ since)) left right (s, f) moved.each in
          record {
            small = moved.small;
            fits = moved.fits;
            same_length = moved.same_length;
            welcome = moved.welcome;
            each =
                all_but (Sharing b (stepped_over s bytes o) (o ∷ since)) left right (s, f) (s', f)
                (record {
                  works =
                      record { on_course = next.on_course; holds = next.holds; idle = λ few. absurd (omega (arith, next.roomy)) };
                  under = sym next.under ∙ one.under;
                  safe = stays.safe;
                })
                moved.each;
            sure = moved.sure;
          }

      intact_stops_inside : (o' : List ℕ) → Partly o (stepped_over s bytes o) o' → Intact (left ++ ((s, f) ∷ right)) o' b (o ∷ since) saved
      intact_stops_inside o' partly =
          intact_moved (left ++ ((s, f) ∷ right)) o b since saved k o' partly.same_length
          (λ t on held. held_partly o (stepped_over s bytes o) o' partly m w b t held (next.others t on held))

    intact_flushes : Intact (left ++ ((s, s) ∷ right)) o b [] saved
    intact_flushes =
        record {
          small = k.small;
          fits = k.fits;
          same_length = k.same_length;
          welcome = k.welcome;
          each =
              all_but (Sharing b o []) left right (s, f) (s, s)
              (record {
                works = one.works;
                under = one.under;
                safe =
                    record {
                      on_course = one.works.on_course;
                      under = one.under;
                      idle = λ few. one.works.idle (rw (← k.same_length) few);
                      stands = λ x is. rw (Memᴰ.eq_of_singleton is) one.works.holds.before;
                    };
              })
              (all_map (Sharing b o since) (Sharing b o []) (λ v a. record { works = a.works; under = a.under; safe = lasts v.1 a.safe })
              (left ++ ((s, f) ∷ right)) k.each);
          sure = λ t is. lasts t (k.sure t is);
        }
      where
        lasts : (t : State) → Safe o (o ∷ since) t → Safe o (o ∷ []) t
        lasts t a =
            record {
              on_course = a.on_course;
              under = a.under;
              idle = a.idle;
              stands = λ x is. rw (Memᴰ.eq_of_singleton is) (a.stands o (Memᴰ.head refl));
            }

    intact_saves : Intact (left ++ ((s, f) ∷ right)) o b since (f ∷ saved)
    intact_saves =
        record {
          small = k.small;
          fits = k.fits;
          same_length = k.same_length;
          welcome = k.welcome;
          each = k.each;
          sure = λ t is. go t (Memᴰ.cases_cons is);
        }
      where
        go : (t : State) → (t ≡ f) ⊎ Memᴰ t saved → Safe o (o ∷ since) t
        go t (inl e) = rw e one.safe
        go t (inr is) = k.sure t is

  intact_nobody : (o : List ℕ) → length m < 2 ^ 64 → number < 2 ^ 64 → Intact [] o o [] []
  intact_nobody o small fits =
      record {
        small = small;
        fits = fits;
        same_length = refl;
        welcome = λ t on none. held_anew m w o t (rw none);
        each = tt;
        sure = λ t is. absurd (Memᴰ.not-nil is);
      }

intact :
    {m : List ℕ} {number w : ℕ} {ws : List Worker} {o b : List ℕ} {since : List (List ℕ)} {saved : List State} → Shared m number w ws o b since saved
    → Intact m number w ws o b since saved
intact {m} {number} {w} (nobody o small fits) = intact_nobody m number w o small fits
intact {m} {number} {w} (joins {s} {ws} {o} {b} {since} {saved} h e) = intact_joins m number w ws o b since saved (intact h) s e
intact {m} {number} {w} (takes_up {s} {ws} {o} {b} {since} {saved} h r is e) = intact_takes_up m number w ws o b since saved (intact h) r s is e
intact {m} {number} {w} (steps left right s f {s'} {o} {b} {bytes} {since} {saved} h e) =
    intact_steps m number w left right s f o b since saved (intact h) s' bytes e
intact {m} {number} {w} (stops_inside left right s f {s'} {o} {b} {bytes} {since} {saved} o' h e partly) =
    intact_stops_inside m number w left right s f o b since saved (intact h) s' bytes e o' partly
intact {m} {number} {w} (flushes left right s f {o} {b} {since} {saved} h) = intact_flushes m number w left right s f o b since saved (intact h)
intact {m} {number} {w} (saves left right s f {o} {b} {since} {saved} h) = intact_saves m number w left right s f o b since saved (intact h)
intact {m} {number} {w} (crashes {ws} {o} {b} {since} {saved} o' h torn) = intact_crashes m number w ws o b since saved (intact h) o' torn

-- in every order of the workers' steps, flushes and saves, and after every crash, each worker finds the uncut decode's
-- bytes before its pixel, and ends as the uncut decode
pub shared :
    {m : List ℕ} {number w : ℕ} {o b : List ℕ} {since : List (List ℕ)} {saved : List State} (left right : List Worker) (s f : State)
    → Shared m number w (left ++ ((s, f) ∷ right)) o b since saved → Undisturbed m w b s o
shared {m} {number} {w} {o} {b} {since} {saved} left right s f h =
    undisturbed m w b o s (one m number w left right s f o b since saved (intact h)).works

-- every record ever saved can be read, and gives its state: whoever finds it may take it up
pub saved_readable :
    {m : List ℕ} {number w : ℕ} {ws : List Worker} {o b : List ℕ} {since : List (List ℕ)} {saved : List State} → Shared m number w ws o b since saved
    → (r : State) → Memᴰ r saved → read_record number (record_bytes r) ≡ started r
saved_readable h r is = let a = (intact h).sure r is in readable r a.on_course a.under
