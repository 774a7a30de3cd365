-- `planner::plan_windows` meets its contract. Assumes nothing.
use mathlib.Core.Path.{◌≡◌, refl, ap, ◌∙◌}
use Prim.Native.Nat.{ℕ}
use lib.ListN.{length, set, replicate, length-replicate}
use Rattle.std.proofs.lemmas.Option.{MatchOption-at_none, MatchOption-at_some}
use Rattle.std.proofs.lemmas.Result.{err_from_is_err_and}
use Rattle.refusals.specs.declared.Refusal.TheVariants.{TooWide, NoPlan}
use Rattle.seats.specs.Slots.{SeatedIn}
use Rattle.releases.specs.Least.{least_of}
use Rattle.lengths.specs.Searching.{Search, Found}
use Rattle.planner.specs.Planner.{first_length}
use Rattle.planner.specs.Asked.{windows, some-jobs, some-limit, some-boards, given, refused-12, search-asked, refused-13, plan-read}
use Rattle.planner.proofs.plan_windows.Goals as goal
use Rattle.planner.proofs.plan_windows.Goals.{In_ok-filled, After-search, at-After-search}

-- the jobs have their places
seated : (c : In_ok-filled) → SeatedIn (windows c.requires.2) c.args.limit c.in_ok-filled.filled c.seat_all-seated.new.tables c.seat_all-seated.new.places
seated c = let l = c.requires.2 in MatchOption-at_some _ _ _ c.in_ok-filled.ensures.ok_part (c.seat_all-seated.ensures (windows l) (given l))

-- what the search is asked, from the first length on, and what it finds
asked : (c : In_ok-filled) (least : ℕ) → least ≡ first_length (least_of c.args.release.now c.args.tail.now c.args.jobs) c.args.jobs c.args.boards
    → Search (windows c.requires.2) c.args.boards c.in_ok-filled.filled least c.args.limit c.args.jobs
    (set c.seat_all-seated.new.tables 1284 c.args.boards) c.seat_all-seated.new.places c.args.tail.now (length c.args.work.now) (replicate 64 0)
asked c least first = search-asked c.requires.2 (seated c) least first _ (replicate 64 0) c.requires.0 (length-replicate {A = ℕ} 64 0)

found : (c : After-search) → Found (windows c.requires.2) c.args.boards c.args.limit c.search.result c.search.new.tables c.search.new.path
found c =
    let a = c.args in
    let first = c.first_length-least.ensures ∙ ap (λ (k : ℕ). first_length k a.jobs a.boards) c.least.ensures in
    c.search.ensures (windows c.requires.2) a.boards (rw c.from.ensures (asked (at-After-search c).In_ok-filled _ first))

pub seat_all-seated-requires : goal.seat_all-seated-requires
seat_all-seated-requires c = let l = c.requires.2 in (some-jobs l, some-limit l, refl, refl, (windows l, given l))

pub returns-in_err-filled : goal.returns-in_err-filled
returns-in_err-filled c =
    let l = c.requires.2 in
    let p = err_from_is_err_and c.from_residual.result c.from_residual.ensures.1 in
    let v = rw c.in_err-filled.ensures.ok_part at c.in_err-filled.ensures.value in
    let out = MatchOption-at_none _ _ c.in_err-filled.ensures.ok_part (c.seat_all-seated.ensures (windows l) (given l)) in
    let e : c.in_err-filled.field-0.0 ≡ TooWide = cc in
    rw (p.1, p.2, e) (refused-12 l _ out)

pub least-requires : goal.least-requires
least-requires c = c.requires.2.jobs.held.few

pub first_length-least-requires : goal.first_length-least-requires
first_length-least-requires c = let l = c.requires.2 in (some-boards l, l.jobs.held.few)

pub search-requires : goal.search-requires
search-requires c =
    let a = c.args in
    let first = c.first_length-least.ensures ∙ ap (λ (k : ℕ). first_length k a.jobs a.boards) c.least.ensures in
    (windows c.requires.2, a.boards, rw c.from.ensures (asked (goal.at.search-requires c).In_ok-filled _ first))

pub returns-in_err-slots : goal.returns-in_err-slots
returns-in_err-slots c =
    let p = err_from_is_err_and c.from_residual-in_err-slots.result c.from_residual-in_err-slots.ensures.1 in
    let v = rw c.in_err-slots.ensures.ok_part at c.in_err-slots.ensures.value in
    let e : c.in_err-slots.field-0.0 ≡ NoPlan = cc in
    let w = goal.at.returns-in_err-slots c in
    rw (p.1, p.2, e) (refused-13 c.requires.2 (seated w.In_ok-filled) (found w.After-search) _ c.in_err-slots.ensures.ok_part)

pub write_plan-requires : goal.write_plan-requires
write_plan-requires c =
    let w = goal.at.write_plan-requires c in
    (c.requires.1, plan-read c.requires.2 (seated w.In_ok-filled) (found w.After-search) _ c.in_ok-slots.ensures.ok_part)
