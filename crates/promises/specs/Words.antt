-- Words for hosts: room that is always enough. `IsText` is the contract of pivotshade_text.
use Rattle.std.specs.Prelude.{List, ◌≡◌, ℕ, ◌≤◌, length}
use Rattle.pixel.specs.Words.{words_of}
use Rattle.rules.specs.Bytes.{written_over}
use Rattle.qoi.specs.Hosted.{IsText}
use Rattle.promises.specs.Hosts.{says}

-- into 160 bytes every number is told: 0 with the words' length, and the words, then what the output held after them
abbrev pub TextFits : ℕ → List ℕ → Type 0
TextFits number figures =
    (before answered left : List ℕ) → 160 ≤ length before → IsText number figures before answered left
    → (answered ≡ says 0 (length (words_of number figures))) × (left ≡ written_over (words_of number figures) before)
