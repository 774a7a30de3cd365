-- `needsets::file::put_file` meets its contract. Assumes nothing.
use mathlib.Core.Path.{◌≡◌, sym, ap, ◌∙◌}
use mathlib.Core.List.{◌++◌}
use Prim.Native.Nat.{ℕ}
use native.Mathlib.Omega.{arith}
use lib.ListN.{length, drop}
use Rattle.rules.specs.Basics.{joined}
use Rattle.rules.specs.SmallGates.{need_field, needs_of, gate_file}
use Rattle.laws.specs.Writing.{put}
use Rattle.needsets.specs.FileLaws.{file-size, head-long, jobs-long, file-written}
use Rattle.needsets.proofs.file.put_file.Goals as goal
use Rattle.needsets.proofs.file.put_file.Goals.{After-put_head, After-put_jobs-at, After-put_needs}

pub put_head-requires : goal.put_head-requires
put_head-requires c =
    let a = c.args in
    (c.requires.1, omega (arith, c.requires.2, file-size a.jobs a.number))

-- the file is as long as it was
after-head : (c : After-put_head) → let a = c.args in length c.put_head.new.file ≡ length a.file.now
after-head c =
    let a = c.args in
    head-long a.jobs a.number a.file.now c.put_head.new.file c.requires.2 c.put_head.ensures

after-jobs : (c : After-put_jobs-at) → let a = c.args in
    length c.put_jobs-at.new.file ≡ length a.file.now
after-jobs c =
    let a = c.args in
    let head = c.put_head in
    jobs-long a.jobs a.number a.file.now head.new.file c.requires.2 head.ensures
    c.put_jobs-at.new.file c.put_jobs-at.ensures.bytes

pub put_jobs-at-requires : goal.put_jobs-at-requires
put_jobs-at-requires c =
    let a = c.args in
    let p = c.requires in
    (p.1, omega (arith, p.2, file-size a.jobs a.number, after-head (goal.at.put_jobs-at-requires c).After-put_head))

pub put_needs-requires : goal.put_needs-requires
put_needs-requires c =
    let a = c.args in
    let p = c.requires in
    (p.0, p.1, omega (arith, p.2, c.put_jobs-at.ensures.size, file-size a.jobs a.number, after-jobs (goal.at.put_needs-requires c).After-put_jobs-at))

-- the length that is given
size : (c : After-put_needs) → let a = c.args in
    c.put_needs.result ≡ length (gate_file a.jobs a.number)
size c =
    let a = c.args in
    omega (arith, c.put_needs.ensures.size, c.put_jobs-at.ensures.size, file-size a.jobs a.number)

pub returns : goal.returns
returns c =
    let a = c.args in
    let head = c.put_head in
    let jobs = c.put_jobs-at in
    let needs = c.put_needs in
    let long = size (goal.at.returns c).After-put_needs in
    let behind = ap (λ (i : ℕ). put i (joined need_field (needs_of a.jobs a.number)) jobs.new.file) jobs.ensures.size in
    let all = file-written a.jobs a.number a.file.now head.new.file c.requires.2 head.ensures
    jobs.new.file jobs.ensures.bytes needs.new.file (needs.ensures.bytes ∙ behind) in
    record { size = long; bytes = all ∙ ap (λ (i : ℕ). gate_file a.jobs a.number ++ drop i a.file.now) (sym long) }
