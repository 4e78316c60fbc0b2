-- `decode::with_channels` meets its contract: every chunk from the start, and the marker test, are the whole reading.
use Rattle.std.proofs.Common.{rules}
use mathlib.Core.Path.{refl, ap₂}
use Prim.{tt}
use Prim.Native.Nat.{◌*◌, ◌≤◌}
use native.Mathlib.Nat.{lt_of_le_of_lt}
use native.Mathlib.Omega.{arith}
use borrow.Author.Tests.{lt-ltb}
use lib.Dec.{lit<}
use lib.ListN.{length}
use Rattle.pixel.specs.Types.{channels_number}
use Rattle.header.specs.Header.{pixel_count}
use Rattle.header.proofs.Laws.{header_accepted, pixels_small}
use Rattle.rules.specs.Reading.{reading_into}
use Rattle.decode.proofs.Whole.{size_fits, stands_inside, ends_cut, ends_refused, ends_done}
use Rattle.decode.proofs.with_channels.Goals as goal

pub overflow_mul-required : goal.overflow_mul-required
overflow_mul-required c =
    let header = c.args.header in
    let few : c.n_pixels.result * c.as_u8.result ≤ 102000000000 =
    rw c.n_pixels.ensures
    (size_fits header (pixels_small header (header_accepted _ header c.requires).fit) c.as_u8.result (omega (arith, c.as_u8.type_inv))) in
    record { fits = lt_of_le_of_lt few (lit< tt) }

pub returns-then-out-required : goal.returns-then-out-required
unfolding reading_into
returns-then-out-required c =
    let a = c.args in
    let size = ap₂ ◌*◌ c.n_pixels.ensures c.as_u8.ensures in
    let short = rw size at c.if-out-required.true in
    rw (size, lt-ltb (length a.out.now) (pixel_count a.header * channels_number a.wanted) short) (refl, refl)

pub returns-then-cut : goal.returns-then-cut
returns-then-cut c =
    ends_cut _ _ _ _ c.requires _ (ap₂ ◌*◌ c.n_pixels.ensures c.as_u8.ensures) c.if-out-required.false _
    c.whole-cut.ensures c.if-cut.true

pub slice_bounds-read_end-count : goal.slice_bounds-read_end-count
slice_bounds-read_end-count c =
    stands_inside _ _ _ _ c.requires _ (ap₂ ◌*◌ c.n_pixels.ensures c.as_u8.ensures) c.if-out-required.false _
    c.whole-cut.ensures

pub slice_bounds-read_end-start : goal.slice_bounds-read_end-start
slice_bounds-read_end-start c =
    stands_inside _ _ _ _ c.requires _ (ap₂ ◌*◌ c.n_pixels.ensures c.as_u8.ensures) c.if-out-required.false _
    c.whole-cut.ensures

pub returns-in_err-read_end : goal.returns-in_err-read_end
returns-in_err-read_end c =
    let ends =
    ends_refused _ _ _ _ c.requires _ (ap₂ ◌*◌ c.n_pixels.ensures c.as_u8.ensures) c.if-out-required.false _
    c.whole-cut.ensures c.if-cut.false _ c.read_end.ensures _ c.in_err-read_end.was in
    search (rules, ends)

pub overflow_add-result : goal.overflow_add-result
overflow_add-result c =
    let inside =
    stands_inside _ _ _ _ c.requires _ (ap₂ ◌*◌ c.n_pixels.ensures c.as_u8.ensures) c.if-out-required.false _
    c.whole-cut.ensures in
    record { fits = omega (arith, inside) }

pub returns : goal.returns
returns c =
    ends_done _ _ _ _ c.requires _ (ap₂ ◌*◌ c.n_pixels.ensures c.as_u8.ensures) c.if-out-required.false _
    c.whole-cut.ensures c.if-cut.false _ c.read_end.ensures _ c.in_ok-read_end.was
