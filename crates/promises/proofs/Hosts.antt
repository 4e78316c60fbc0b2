-- Demand 3 for hosts, proved: a host's history is one of `demands`, so it ends as pivotshade_decode.
-- Assumes nothing.
use Rattle.std.specs.Prelude.{Result, Ok, Err}
use mathlib.Core.Path.{◌≡◌, refl, sym, ◌∙◌, ap}
use mathlib.Core.List.{List, ◌∷◌, ◌++◌}
use Prim.Native.Nat.{ℕ, ◌+◌, ◌^◌, ◌≤◌, ◌<◌}
use native.Mathlib.Omega.{arith}
use borrow.Author.Tests.{le-ltb}
use lib.ListN.{length, take}
use Rattle.pixel.specs.declared.error.Error.{Error}
use Rattle.pixel.specs.declared.error.Error.TheVariants.{UnexpectedBufferEnd, InvalidChannels, InvalidColorSpace, InvalidMagic, InvalidImageDimensions, InvalidImageLength, OutputBufferTooSmall, InvalidPadding, BadState, RunPastImage, BytesAfterMarker, OtherMessage, InvalidHour, InvalidCellCount, TotalTooLarge}
use Rattle.pixel.specs.Bytes.{AllBytes}
use Rattle.pixel.specs.Refusal.{number_of}
use Rattle.pixel.specs.Types.{channels_from}
use Rattle.header.specs.declared.Header.{Header}
use Rattle.header.specs.Header.{pixel_count, header_of}
use Rattle.header.proofs.Laws.{is_true}
use Rattle.rules.specs.Reading.{Answer, done, refused, silent, after_wanted, after_header, whole_reading}
use Rattle.rules.specs.Bytes.{written_over}
use Rattle.rules.specs.Decode.{decoder, decoding}
use Rattle.rules.specs.Figures.{answer_figures}
use Rattle.rules.specs.Step.{State, well_formed, Started, started, not_started, start_wanted, start_header, starting, Ran, going, ended, output_of, running}
use Rattle.rules.specs.Record.{Recorded, recorded, not_recorded, recording, recorded_over, record_bytes, read_record}
use Rattle.rules.specs.Damage.{cut_offset}
use Rattle.rules.proofs.RecordLaws.{record_length}
use Rattle.rules.proofs.RecordAgainLaws.{record_written_back, record_well_formed, record_short}
use Rattle.demands.specs.TakeOver.{bytes_before, Life, begun, taken_up, steps_left}
use Rattle.demands.specs.Broker.{Broker}
use Rattle.demands.specs.Inside.{StoppedInside}
use Rattle.demands.proofs.TakeOver.{reached_readable, reached_taken, reached_well_formed, reached_adds_up, enough_steps, run_lives, run_ends_as_uncut}
use Rattle.demands.proofs.Broker.{any_checkpoint, another_message}
use Rattle.demands.proofs.Damaged.{cut_checkpoint, longer_checkpoint}
use Rattle.demands.proofs.Steps.{run_keeps_before, run_further}
use Rattle.demands.proofs.Inside.{inside_keeps_before}
use Rattle.demands.proofs.Written.{written_record}
use Rattle.qoi.specs.Hosted.{started_figures, started_over, recorded_figures, ran_figures, ran_next, host_figures, host_out, host_next}
use Rattle.promises.specs.Hosts.{says, returned, record_room, Host, starts, runs, takes_over, EndsAsDecode, TakesOver, Starts, TestsRecord, RefusesRecord}
use Rattle.pixel.specs.declared.types.Channels.{Channels}

-- what refuses a start refuses the decode
refused_start :
    (m : List ℕ) (number w room : ℕ) (e : Error) → starting m number w ≡ not_started e → decoding m w room ≡ silent (refused e)
unfolding starting start_header start_wanted whole_reading after_header after_wanted
refused_start m number w room e is = heading (header_of m) is
  where
    told : (x : Error) → not_started x ≡ not_started e → silent (refused x) ≡ silent (refused e)
    told x is = let same : x ≡ e = cc in ap (λ (y : Error). silent (refused y)) same

    wanting :
        (header : Header) (c : Result Channels Error) → start_wanted header number c ≡ not_started e
        → after_wanted decoder m room header c ≡ silent (refused e)
    wanting header (Err x) is = told x is
    wanting header (Ok c) is = absurd (let z : ◌≡◌ {A = ℕ} 0 1 = cc in omega arith)

    heading : (r : Result Header Error) → start_header number w r ≡ not_started e → after_header decoder m room w r ≡ silent (refused e)
    heading (Err x) is = told x is
    heading (Ok header) is = wanting header (channels_from w) is

-- a refusal's number is neither 0 nor 256
pub number_small : (e : Error) → (1 ≤ number_of e) × (number_of e ≤ 21)
number_small (UnexpectedBufferEnd offset) = (omega arith, omega arith)
number_small (InvalidChannels channels) = (omega arith, omega arith)
number_small (InvalidColorSpace byte) = (omega arith, omega arith)
number_small (InvalidMagic magic) = (omega arith, omega arith)
number_small (InvalidImageDimensions width height) = (omega arith, omega arith)
number_small (InvalidImageLength size width height) = (omega arith, omega arith)
number_small (OutputBufferTooSmall size required) = (omega arith, omega arith)
number_small InvalidPadding = (omega arith, omega arith)
number_small (BadState offset) = (omega arith, omega arith)
number_small RunPastImage = (omega arith, omega arith)
number_small BytesAfterMarker = (omega arith, omega arith)
number_small (OtherMessage number) = (omega arith, omega arith)
number_small (InvalidHour hour) = (omega arith, omega arith)
number_small (InvalidCellCount pixels cells) = (omega arith, omega arith)
number_small (TotalTooLarge cell) = (omega arith, omega arith)

-- the record in a host's hands is of a history of demand 3
record Lives (m : List ℕ) (number w : ℕ) (r o b : List ℕ) : Type 0 where
  state : State
  is : r ≡ record_bytes state
  reads : read_record number r ≡ started state
  fits : length r ≤ record_room
  life : Life m number w state o b

module _ {m : List ℕ} {number w : ℕ} {o b : List ℕ} (s : State) (life : Life m number w s o b) where
  -- a record of it has at most 300 bytes
  short : length (record_bytes s) ≤ record_room
  short = let well = reached_well_formed life in (record_length s well.1 well.0).1

  -- so it fits a part of 300 bytes
  written : (part : List ℕ) → record_room ≤ length part → recording s (length part) ≡ recorded (length (record_bytes s))
  unfolding recording
  written part roomy =
      rw (is_true (well_formed s) (reached_well_formed life).0, le-ltb (length part) (length (record_bytes s)) (omega (arith, short)))

  -- and is read back as the state that it was written of
  kept : (part : List ℕ) (n : ℕ) → recording s (length part) ≡ recorded n → Lives m number w (take n (recorded_over s part)) o b
  kept part n is =
      let same = written_record s part n is in
      record { state = s; is = same; reads = rw same (reached_readable life); fits = rw same short; life = life }

lives_starts :
    (m : List ℕ) (number w : ℕ) (o part : List ℕ) (n : ℕ) → length m < 2 ^ 64 → number < 2 ^ 64 → (v : Started) → starting m number w ≡ v
    → started_figures v part ≡ says 0 n → Lives m number w (take n (started_over v part)) o o
lives_starts m number w o part n small fits (not_started e) is said = let z : number_of e ≡ 0 = cc in absurd (omega (arith, (number_small e).0))
lives_starts m number w o part n small fits (started s) is said = go (recording s (length part)) refl said
  where
    go : (v : Recorded) → recording s (length part) ≡ v → recorded_figures 0 v ≡ says 0 n → Lives m number w (take n (recorded_over s part)) o o
    go (recorded k) e said = let same : k ≡ n = cc in kept s (begun o small fits is) part n (e ∙ ap recorded same)
    go (not_recorded x) e said = let z : number_of x ≡ 0 = cc in absurd (omega (arith, (number_small x).0))

module _ {m : List ℕ} {number w : ℕ} {r o b : List ℕ} (l : Lives m number w r o b) (steps : ℕ) (next : List ℕ) where
  lives_runs :
      (n : ℕ) → host_figures m steps o next (read_record number r) ≡ says 256 n
      → Lives m number w (take n (host_next m steps o next (read_record number r))) (host_out m steps o (read_record number r)) b
  lives_runs n said = rw l.reads (go (running m steps l.state o) refl (rw l.reads at said))
    where
      on :
          (s' : State) (o' : List ℕ) → Life m number w s' o' b → (v : Recorded) → recording s' (length next) ≡ v → recorded_figures 256 v ≡ says 256 n
          → Lives m number w (take n (recorded_over s' next)) o' b
      on s' o' life (recorded k) e told = let same : k ≡ n = cc in kept s' life next n (e ∙ ap recorded same)
      on s' o' life (not_recorded x) e told = let z : number_of x ≡ 256 = cc in absurd (omega (arith, (number_small x).1))

      go : (v : Ran) → running m steps l.state o ≡ v → ran_figures v next ≡ says 256 n → Lives m number w (take n (ran_next v next)) (output_of v) b
      go (going s' o') e told = on s' o' (run_lives steps l.life s' o' e) (recording s' (length next)) refl told
      go (ended (done size used) last left) e told = let z : ◌≡◌ {A = ℕ} 0 256 = cc in absurd (omega arith)
      go (ended (refused x) last left) e told = let z : number_of x ≡ 256 = cc in absurd (omega (arith, (number_small x).1))

  nearer_so :
      (n : ℕ) → host_figures m steps o next (read_record number r) ≡ says 256 n
      → (s' : State) × (read_record number (take n (host_next m steps o next (read_record number r))) ≡ started s') × (steps_left s' + steps ≤ steps_left l.state)
  nearer_so n said = rw l.reads (go (running m steps l.state o) refl (rw l.reads at said))
    where
      Goal : Ran → Type 0
      Goal v = (s' : State) × (read_record number (take n (ran_next v next)) ≡ started s') × (steps_left s' + steps ≤ steps_left l.state)

      on :
          (s' : State) (o' : List ℕ) → running m steps l.state o ≡ going s' o' → (v : Recorded) → recording s' (length next) ≡ v
          → recorded_figures 256 v ≡ says 256 n → Goal (going s' o')
      on s' o' e (recorded k) is told =
          let same : k ≡ n = cc in
          let life = run_lives steps l.life s' o' e in
          let further = run_further m steps l.state o s' o' e in
          let reads : read_record number (take n (recorded_over s' next)) ≡ started s' =
          rw (written_record s' next n (is ∙ ap recorded same)) (reached_readable life) in
          (s', reads, omega (arith, further.0, ap pixel_count further.1, reached_adds_up l.life, reached_adds_up life))
      on s' o' e (not_recorded x) is told = let z : number_of x ≡ 256 = cc in absurd (omega (arith, (number_small x).1))

      go : (v : Ran) → running m steps l.state o ≡ v → ran_figures v next ≡ says 256 n → Goal v
      go (going s' o') e told = on s' o' e (recording s' (length next)) refl told
      go (ended (done size used) last left) e told = let z : ◌≡◌ {A = ℕ} 0 256 = cc in absurd (omega arith)
      go (ended (refused x) last left) e told = let z : number_of x ≡ 256 = cc in absurd (omega (arith, (number_small x).1))

  ends_so :
      record_room ≤ length next → (returned (host_figures m steps o next (read_record number r)) ≡ 256 → ⊥)
      → EndsAsDecode m w b next (host_figures m steps o next (read_record number r)) (host_out m steps o (read_record number r))
      (host_next m steps o next (read_record number r))
  ends_so roomy not_more = rw l.reads (go (running m steps l.state o) refl (rw l.reads at not_more))
    where
      go :
          (v : Ran) → running m steps l.state o ≡ v → (returned (ran_figures v next) ≡ 256 → ⊥)
          → EndsAsDecode m w b next (ran_figures v next) (output_of v) (ran_next v next)
      go (going s' o') e never = absurd (never (rw (written s' (run_lives steps l.life s' o' e) next roomy)))
      go (ended answer last left) e never =
          let uncut = run_ends_as_uncut l.life steps answer last left e in
          let is : ended answer last left ≡ ended (decoding m w (length b)).answer uncut.0 (written_over (decoding m w (length b)).bytes b) = sym e ∙ uncut.1 in
          let same : answer ≡ (decoding m w (length b)).answer = cc in
          let out : left ≡ written_over (decoding m w (length b)).bytes b = cc in
          record { figures_are = ap answer_figures same; output_is = out; next_stays = refl }

  ends_soon : steps_left l.state ≤ steps → returned (host_figures m steps o next (read_record number r)) ≡ 256 → ⊥
  ends_soon enough = rw (l.reads, (enough_steps l.life steps enough).1) (other (decoding m w (length b)).answer)
    where
      other : (a : Answer) → returned (answer_figures a) ≡ 256 → ⊥
      other (done size used) e = omega arith
      other (refused x) e = omega (arith, (number_small x).1)

lives : {m : List ℕ} {number w : ℕ} {r o b : List ℕ} → Host m number w r o b → Lives m number w r o b
lives {m} {number} {w} (starts o part n small fits said) = lives_starts m number w o part n small fits (starting m number w) refl said
lives (runs host steps next n said) = lives_runs (lives host) steps next n said
lives (takes_over host s is o' agrees) =
    let l = lives host in
    let same : l.state ≡ s = cc l.reads in
    let life = rw same at l.life in
    record { state = s; is = l.is ∙ ap record_bytes same; reads = is; fits = l.fits; life = taken_up life o' agrees (reached_readable life) }

takes_over_so : {m : List ℕ} {number w : ℕ} {r o b : List ℕ} → Lives m number w r o b → TakesOver m number w r o b
takes_over_so l =
    record {
      state = l.state;
      reads = l.reads;
      fits = l.fits;
      ends_as_decode = ends_so l;
      nearer = nearer_so l;
      ends_within = ends_soon l;
    }

-- whatever a host did, its record is read, and ends as pivotshade_decode within the pixels left plus one steps
pub host_takes_over : {m : List ℕ} {number w : ℕ} {r o b : List ℕ} → Host m number w r o b → TakesOver m number w r o b
host_takes_over host = takes_over_so (lives host)

-- so does the record of every state that a history of demand 3 reaches
pub life_takes_over : {m : List ℕ} {number w : ℕ} {o b : List ℕ} (s : State) → Life m number w s o b → TakesOver m number w (record_bytes s) o b
life_takes_over s life = takes_over_so (record { state = s; is = refl; reads = reached_readable life; fits = short s life; life = life })

-- a start with 300 bytes for its record returns 0, or refuses as pivotshade_decode
pub host_starts : (m : List ℕ) (number w : ℕ) (part : List ℕ) → length m < 2 ^ 64 → number < 2 ^ 64 → record_room ≤ length part → Starts m number w part
host_starts m number w part small fits roomy = record { refuses_as_decode = λ never o. go o (starting m number w) refl never }
  where
    go :
        (o : List ℕ) (v : Started) → starting m number w ≡ v → (returned (started_figures v part) ≡ 0 → ⊥)
        → EndsAsDecode m w o part (started_figures v part) o (started_over v part)
    go o (not_started e) is never =
        let same = refused_start m number w (length o) e is in
        record { figures_are = rw same; output_is = rw same; next_stays = refl }
    go o (started s) is never = absurd (never (rw (written s (begun o small fits is) part roomy)))

-- the record that a run was given may be handed in again on what the run left, whatever it returned
pub host_left_behind :
    {m : List ℕ} {number w : ℕ} {r o b : List ℕ} → Host m number w r o b → (steps : ℕ)
    → Host m number w r (host_out m steps o (read_record number r)) (host_out m steps o (read_record number r))
host_left_behind {m} {number} {w} {r} {o} host steps =
    let l = lives host in
    takes_over host l.state l.reads (host_out m steps o (read_record number r)) (rw l.reads (run_keeps_before m steps l.state o))

-- a host that is cut off inside a run, after some steps and with any bytes of the next one written, may hand the same
-- record in on what it left
pub host_left_inside :
    {m : List ℕ} {number w : ℕ} {r o b o' : List ℕ} → Host m number w r o b → (s : State) → read_record number r ≡ started s
    → StoppedInside m s o o' → Host m number w r o' o'
host_left_inside {o' = o'} host s is stop = takes_over host s is o' (inside_keeps_before stop)

-- a run of 0 steps with 300 bytes for the next record tests the record alone
pub record_alone :
    (m : List ℕ) (number : ℕ) (r o next : List ℕ) → AllBytes r → record_room ≤ length next → TestsRecord m number r o next
unfolding running recording recorded_over
record_alone m number r o next are roomy =
    record {
      output_stays = stays (read_record number r);
      refuses = λ e is. (rw is, rw is);
      accepts = λ s is.
          let same = record_written_back number r are s is in
          let well = is_true (well_formed s) (record_well_formed number r are s is) in
          let fits = le-ltb (length next) (length r) (omega (arith, record_short number r are s is)) in
          (rw (is, well, same, fits), rw (is, well, same, fits));
    }
  where
    stays : (v : Started) → host_out m 0 o v ≡ o
    stays (started s) = refl
    stays (not_started e) = refl

-- bytes that are not read change nothing
refuses_record : (m : List ℕ) (number : ℕ) (r : List ℕ) (e : Error) → read_record number r ≡ not_started e → RefusesRecord m number r e
refuses_record m number r e refuses =
    record {
      figures_are = λ steps o next. rw refuses;
      output_stays = λ steps o. rw refuses;
      next_stays = λ steps o next. rw refuses;
    }

-- a host on another message than the one that its record is of gets 12, with that one's number, and nothing changes
pub host_another_message :
    {m : List ℕ} {number w : ℕ} {r o b : List ℕ} → Host m number w r o b
    → (m' : List ℕ) (other : ℕ) → (number ≡ other → ⊥) → RefusesRecord m' other r (OtherMessage number)
host_another_message {r = r} host m' other differs =
    let l = lives host in
    refuses_record m' other r _ (ap (read_record other) l.is ∙ another_message l.life other differs)

-- of a record that is cut off after n bytes it gets 1, with the offset of the field that is cut
pub host_cut_record :
    {m : List ℕ} {number w : ℕ} {r o b : List ℕ} → Host m number w r o b → (s : State) → read_record number r ≡ started s
    → (m' : List ℕ) (expected n : ℕ) → n < length r → RefusesRecord m' expected (take n r) (UnexpectedBufferEnd (cut_offset s n))
host_cut_record {r = r} host s is m' expected n short =
    let l = lives host in
    let same : l.state ≡ s = cc l.reads in
    let life = rw same at l.life in
    let of-state : r ≡ record_bytes s = l.is ∙ ap record_bytes same in
    refuses_record m' expected (take n r) _
    (ap (λ (bytes : List ℕ). read_record expected (take n bytes)) of-state
    ∙ cut_checkpoint life expected n (rw of-state at short))

-- and of one with more bytes after it 9, with the offset at which these begin
pub host_longer_record :
    {m : List ℕ} {number w : ℕ} {r o b : List ℕ} → Host m number w r o b
    → (m' : List ℕ) (expected byte : ℕ) (more : List ℕ) → RefusesRecord m' expected (r ++ byte ∷ more) (BadState (length r))
host_longer_record {r = r} host m' expected byte more =
    let l = lives host in
    refuses_record m' expected (r ++ byte ∷ more) _
    (rw l.is (longer_checkpoint l.life expected byte more))

-- a host to which m was delivered hands in, under m's number, some host's record of any message m' that was ever
-- delivered: if it is read, it ends as pivotshade_decode of m
pub host_any_record :
    (broker : Broker) {m m' : List ℕ} {number number' w : ℕ} {r o b : List ℕ}
    → broker.delivers number m → broker.delivers number' m' → Host m' number' w r o b
    → (s : State) → read_record number r ≡ started s → (o' : List ℕ) → take (bytes_before s) o' ≡ take (bytes_before s) o
    → TakesOver m number w r o' o'
host_any_record broker {number = number} delivered delivered' host s is o' agrees =
    let l = lives host in
    let reads = rw l.is at is in
    let same = reached_taken l.life number reads in
    let life = any_checkpoint broker delivered delivered' l.life o' (rw (← same) at agrees) reads in
    rw (l.is ∙ ap record_bytes same) (life_takes_over s life)
