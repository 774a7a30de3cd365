-- `needsets::starts::list_count` meets its contract. Assumes nothing.
use Rattle.std.proofs.Common.{ℕ, ◌^◌, ◌<◌, ◌≤◌, zero, suc, arith, lit<}
use Rattle.needsets.proofs.starts.list_count.Goals as goal

-- four jobs have 256 lists
few : (n : ℕ) → n ≤ 4 → n ^ n < 2 ^ 64
few zero h = lit< tt
few (suc zero) h = lit< tt
few (suc (suc zero)) h = lit< tt
few (suc (suc (suc zero))) h = lit< tt
few (suc (suc (suc (suc zero)))) h = lit< tt
few (suc (suc (suc (suc (suc n))))) h = absurd (omega arith)

pub pow-requires : goal.pow-requires
pow-requires c = few c.args.jobs c.requires.1
