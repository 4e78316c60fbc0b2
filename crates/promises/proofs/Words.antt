-- Words for hosts: in 160 bytes there is room for each of them.
-- Assumes nothing.
use mathlib.Core.List.{List, ◌∷◌}
use mathlib.Core.Path.{◌≡◌, ◌∙◌, ap}
use Prim.Native.Nat.{ℕ, ◌≤◌}
use native.Mathlib.Nat.{zero-add}
use native.Mathlib.Omega.{arith}
use contract.Lifetimes.{Lfts}
use denote.Triple.Clauses.{Lasts}
use borrow.Fn.Kinds.{Dens, res_t, ended_of}
use lib.ListN.{length}
use Rattle.text.specs.Text.{put_over}
use Rattle.text.proofs.Laws.{put_room}
use Rattle.pixel.specs.Words.{words_of, worded_in}
use Rattle.pixel.proofs.WordsLaws.{words_short, long_enough}
use Rattle.rules.specs.Figures.{worded_figures}
use Rattle.report.specs.Line.{line_of}
use Rattle.report.proofs as report
use Rattle.qoi.specs.Hosted.{IsText}
use Rattle.qoi.proofs as qoi
use Rattle.promises.specs.Determined.{Allows}
use Rattle.promises.specs.Words.{TextFits}

pub host_text_fits : (number : ℕ) (figures : List ℕ) → TextFits number figures
host_text_fits number figures before answered left room (told, wrote) =
    let fits : length (words_of number figures) ≤ length before = omega (arith, words_short number figures) in (
      told ∙ ap worded_figures (long_enough (words_of number figures) (length before) fits),
      wrote ∙ rw zero-add (put_room (words_of number figures) before fits),
    )

-- `IsText` is the contract, as the checker reads it off the source
pub host_text_contract :
    (κs : Lfts 3) (a : Dens κs qoi.pivotshade_text.Kinds.ps) (z : (res_t qoi.pivotshade_text.Kinds.r κs).Denot)
    (e : Lasts (ended_of 3 qoi.pivotshade_text.Kinds.ps qoi.pivotshade_text.Kinds.r) κs a)
    → Allows qoi.pivotshade_text.Kinds.ps qoi.pivotshade_text.Kinds.r qoi.pivotshade_text.Reads.Post κs a z e
    → IsText a.0 a.1.0.now a.1.1.0.now (z ∷ e.1.1.1.0) e.1.1.0
host_text_contract κs a z e allowed = allowed

-- and what report::line is held to
pub line_contract :
    (κs : Lfts 2) (a : Dens κs report.line.Kinds.ps) (z : (res_t report.line.Kinds.r κs).Denot)
    (e : Lasts (ended_of 2 report.line.Kinds.ps report.line.Kinds.r) κs a)
    → Allows report.line.Kinds.ps report.line.Kinds.r report.line.Reads.Post κs a z e
    → (z ≡ worded_in (line_of a.0.now) (length a.1.0.now)) × (e.1.0 ≡ put_over (line_of a.0.now) a.1.0.now)
line_contract κs a z e allowed = allowed
