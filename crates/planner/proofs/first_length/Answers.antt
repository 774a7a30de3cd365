-- `planner::first_length` meets its contract. Assumes nothing.
use Rattle.std.proofs.Common.{◌≡◌, refl, ℕ, ◌+◌, ◌-◌, ◌*◌, ◌/◌, ◌≤◌, ◌<◌, add-mul, one-mul, div-lt_iff_lt-mul, arith}
use Rattle.std.specs.Int.{div_ceil}
use Rattle.std.proofs.lemmas.Grind.{div_ceil_times}
use Rattle.planner.specs.Planner.{first_length}
use Rattle.planner.proofs.first_length.Goals as goal

-- what is at least n / c, and not a whole more
rounded-up-is : (n c x : ℕ) → 0 < c → n ≤ x * c → x * c < n + c → x ≡ (n + (c - 1)) / c
rounded-up-is n c x p a b =
    let up : (n + (c - 1)) / c < x + 1 = (div-lt_iff_lt-mul p).1 (omega (arith, add-mul x 1 c, one-mul c)) in
    let down : (n + (c - 1)) / c < x → ⊥ = λ l. let m = (div-lt_iff_lt-mul p).0 l in omega arith in
    omega (arith, up, down)

pub returns : goal.returns
unfolding first_length
returns c =
    let p = c.requires.0 in
    let b = div_ceil_times c.args.jobs c.args.cap p in
    let e = rounded-up-is c.args.jobs c.args.cap (div_ceil c.args.jobs c.args.cap) p b.0 b.1 in
    rw (c.max.ensures, c.div_ceil.ensures, c.from.ensures, e) refl
