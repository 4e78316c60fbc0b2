-- `walk::four::put_long` meets its contract: each fill goes on from where the one before it ended, and less than a
-- pixel is left at the end.
-- Assumes nothing.
use mathlib.Core.Path.{refl}
use native.Mathlib.Omega.{arith}
use Rattle.walk.proofs.Pasting.{fills_on, fills_all, once_close}
use Rattle.walk.proofs.four.put_long.Goals as goal

pub returns : goal.returns
returns c =
    let eights = c.once-eights in
    let sixteens = c.once-sixteens in
    let under_64 = c.pages-under_64 in
    let under-32 = c.once-under_32 in
    let under-16 = c.once-under_16 in
    let under-8 = c.once-under_8 in
    let under-4 = c.once in
    let many = c.requires.0 in
    let room = c.requires.1 in
    let near = eights.ensures.0.within in
    let two = fills_on sixteens.result eights.ensures.0 sixteens.ensures.0 (refl, refl, omega arith) in
    let three = fills_on under_64.result two under_64.ensures.0 (refl, refl, room) in
    let four = fills_on under-32.result three under-32.ensures.0 (refl, refl, room) in
    let five = fills_on under-16.result four under-16.ensures.0 (refl, refl, room) in
    let six = fills_on under-8.result five under-8.ensures.0 (refl, refl, room) in
    let seven = fills_on under-4.result six under-4.ensures.0 (refl, refl, room) in
    let left-64 = under_64.ensures.1 in
    let left-32 = once_close 32 _ _ _ under-32.ensures.1 (omega arith) in
    let left-16 = once_close 16 _ _ _ under-16.ensures.1 (omega arith) in
    let left-8 = once_close 8 _ _ _ under-8.ensures.1 (omega arith) in
    let left-4 = once_close 4 _ _ _ under-4.ensures.1 (omega arith) in
    fills_all c.args.times seven (refl, left-4)
