-- `releases::raised` meets its contract. Assumes nothing.
use mathlib.Core.Path.{◌≡◌, sym, ◌∙◌}
use Prim.Native.Nat.{ℕ, ◌+◌, ◌*◌, ◌<◌}
use native.Mathlib.Omega.{arith}
use native.Mathlib.Decide.{ℕ_discrete}
use Rattle.releases.specs.Codes.{raised}
use Rattle.releases.specs.Gathered.{raised-later, raised-again, raised-before}
use Rattle.releases.proofs.raised.Goals as goal

-- a code above twice the slot stays: it has met the slot twice, or a later one
stays : (code slot : ℕ) → 2 * slot < code → raised code slot ≡ code
stays code slot h = go (ℕ_discrete code (2 * slot + 1))
  where
    go : Dec (code ≡ 2 * slot + 1) → raised code slot ≡ code
    go (yes e) = raised-again code slot (omega arith) ∙ sym e
    go (no e) = raised-before code slot (omega arith)

pub returns-then-code-once : goal.returns-then-code-once
returns-then-code-once c =
    let t = c.if-code-once.true in
    sym (raised-later c.args.code c.args.slot (omega arith))

pub returns-then-code-once-2 : goal.returns-then-code-once-2
returns-then-code-once-2 c =
    let t = c.if-code-once-2.true in let a = c.args in
    let e : a.code ≡ 2 * a.slot = omega arith in
    sym (raised-again a.code a.slot (omega arith))

pub returns : goal.returns
returns c =
    let m = c.if-code-once.false in
    let n = c.if-code-once-2.false in
    sym (stays c.args.code c.args.slot (omega arith))
