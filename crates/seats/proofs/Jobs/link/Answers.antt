-- `seats::Jobs::link` meets its contract. The jobs from the loop's on are linked. Assumes nothing.
use Rattle.std.proofs.Common.{◌≡◌, suc, ◌-◌, arith}
use Rattle.seats.specs.Links.{LinkedAll, linked-none, linked-more}
use Rattle.seats.proofs.Jobs.link.Goals as goal

pub loop-job-init : goal.loop-job-init
loop-job-init c =
    let a = c.args in let p = c.requires in
    let e : a.self.count - a.self.count ≡ 0 = omega arith in
    rw e (linked-none a.self.release.now a.self.limit a.first.now a.next.now a.self.count p.2 p.3 (omega arith))

pub loop-job-preserved : goal.loop-job-preserved
loop-job-preserved c =
    let l = c.loop-job in let a = c.args in
    let p = c.requires in
    let job = l.job - 1 in
    let s : suc (l.job - 1) ≡ l.job = omega arith in
    let k : suc (a.self.count - l.job) ≡ a.self.count - (l.job - 1) = omega arith in
    let L : LinkedAll a.self.release.now a.self.limit l.first l.next (a.self.count - l.job) (suc (l.job - 1)) = rw s l.invariant in
    rw (c.link_job.ensures.0, c.link_job.ensures.1, c.from.ensures, ← k)
    (linked-more a.self.release.now a.self.limit l.first l.next (a.self.count - l.job) job (omega arith) (omega arith) L)
