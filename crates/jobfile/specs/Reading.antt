-- What each function of the reader gives, over the arrays that it fills. Assumes nothing.
use Rattle.std.specs.Prelude.{◌≡◌, not, ◌&&◌, List, ℕ, zero, suc, ◌+◌, ◌-◌, ◌*◌, ◌≤◌, ◌<◌, length, set, T, leb, ltb, eqb, Option, Some, None, Result, Ok, Err}
use Rattle.std.specs.Option.{is_some}
use Rattle.rules.specs.Basics.{choose, at}
use Rattle.rules.specs.Fields.{Answer, refused, got, ask, number_of, value, whole}
use Rattle.rules.specs.JobFile.{JobFile, nth_job, content_ok, job_of, is_need, giver_of, taker_of, is_job, read_file}
use Rattle.rules.specs.Needs.{NeedsIn}
use Rattle.rules.specs.Sizes.{max_jobs}
use Rattle.bitmap.specs.Marks.{with_mark}
use Rattle.needrows.specs.Rows.{row_bits, rows_size, without_row, RowsAre}
use Rattle.refusals.specs.declared.Refusal.{Refusal}
use Rattle.refusals.specs.declared.Refusal.TheVariants.{Incomplete}
use Rattle.refusals.specs.Refusals.{number, refusal_number}
use Rattle.jobfile.specs.declared.Counts.{Counts}

-- the most boards that a file gives, where it gives them: 0 says that it does not
abbrev pub given : ℕ → Option ℕ
given zero = None
given (suc b) = Some (suc b)

-- what the code has read so far: counts, the offsets of the job fields, and the rows of takers
pub record State : Type 0 where
  pub fields : ℕ
  pub limit : ℕ
  pub sockets : Option ℕ
  pub jobs : ℕ
  pub offsets : List ℕ
  pub rows : List ℕ

abbrev pub state_of : Counts → List ℕ → List ℕ → State
state_of c o rows = record { fields = c.fields; limit = c.limit; sockets = c.sockets; jobs = c.jobs; offsets = o; rows = rows }

-- before the first field
abbrev pub initial : List ℕ → List ℕ → State
initial o rows = record { fields = 0; limit = 0; sockets = None; jobs = 0; offsets = o; rows = rows }

-- a reader's answer: what has been read, or the number of the question that said no
abbrev pub answer_of : Result Counts Refusal → List ℕ → List ℕ → Answer State
answer_of (Ok c) o rows = got (state_of c o rows)
answer_of (Err q) o rows = refused (number q)

-- one field more, that adds no job and no need
abbrev pub one_more : State → ℕ → Option ℕ → State
one_more s l b = record { fields = s.fields + 1; limit = l; sockets = b; jobs = s.jobs; offsets = s.offsets; rows = s.rows }

-- the need from job g to job k, both from 0, among the takers of g
unfoldable pub linked : State → ℕ → ℕ → State
linked s g k = record {
  fields = s.fields + 1;
  limit = s.limit;
  sockets = s.sockets;
  jobs = s.jobs;
  offsets = s.offsets;
  rows = with_mark s.rows (row_bits * g + k);
}

-- question 8 of a need between the jobs with the numbers g and k; a pair that is there already leaves the rows as they are
unfoldable pub take_need : State → ℕ → ℕ → Answer State
take_need s g k = ask (is_job s.jobs g && (is_job s.jobs k && not (eqb g k))) 8 (got (linked s (g - 1) (k - 1)))

-- question 21 of the most boards b
unfoldable pub take_sockets : State → ℕ → Answer State
take_sockets s b = ask (not (is_some s.sockets)) 21 (got (one_more s s.limit (given b)))

-- the job whose field starts at offset a, without a taker
abbrev pub with_offset : State → ℕ → State
with_offset s a = record {
  fields = s.fields + 1;
  limit = s.limit;
  sockets = s.sockets;
  jobs = s.jobs + 1;
  offsets = set s.offsets s.jobs a;
  rows = without_row s.rows s.jobs;
}

-- the rest of question 6, 7, 8 and 21, of the field at offset a with tag and value
unfoldable pub take_field : State → ℕ → ℕ → List ℕ → Answer State
take_field s tag a v =
    ask (content_ok tag v) 6
    (choose (eqb tag 2) (got (one_more s (at v 0) s.sockets))
    (choose (eqb tag 3) (ask (ltb s.jobs max_jobs) 7 (got (with_offset s a)))
    (choose (is_need tag) (take_need s (giver_of tag v) (taker_of tag v))
    (choose (eqb tag 9) (take_sockets s (at v 0)) (got (one_more s s.limit s.sockets))))))

-- counts with one field more
unfoldable pub counted_more : Counts → Counts
counted_more c = record { sockets = c.sockets; fields = c.fields + 1; limit = c.limit; jobs = c.jobs }

-- r is the answer to a field of this tag with the value v, whatever offsets and rows hold: it touches neither
abbrev pub FieldAnswered : Counts → ℕ → List ℕ → Result Counts Refusal → Type 0
FieldAnswered c tag v r = (a : ℕ) (o rows : List ℕ) → answer_of r o rows ≡ take_field (state_of c o rows) tag a v

-- question 10 of the counts at the end
unfoldable pub complete_answer : Counts → Result (Unit {0}) Refusal
complete_answer c = choose (leb 2 c.fields && leb 1 c.jobs) (Ok tt) (Err Incomplete)

-- the state holds what the rules' reading of the bytes has read
pub record Held (bs : List ℕ) (f : JobFile) (s : State) : Type 0 where
  pub fields-is : s.fields ≡ f.fields
  pub limit_is : s.limit ≡ f.limit
  pub sockets-is : s.sockets ≡ given f.sockets
  pub jobs-is : s.jobs ≡ length f.jobs
  pub few : s.jobs ≤ max_jobs
  pub sizes : (length s.offsets ≡ max_jobs) × (rows_size ≤ length s.rows)
  pub offsets-whole : (i : ℕ) → i < s.jobs → T (whole bs (at s.offsets i))
  pub offsets_are : (i : ℕ) → i < s.jobs → job_of (value bs (at s.offsets i)) ≡ nth_job f.jobs i
  pub needs-in : NeedsIn s.jobs f.needs
  pub rows_are : RowsAre s.rows s.jobs f.needs

-- both refuse by the same question, or the state holds the file
unfoldable pub Same : List ℕ → Answer JobFile → Answer State → Type 0
Same bs (refused p) (refused q) = p ≡ q
Same bs (refused p) (got s) = ⊥
Same bs (got f) (refused q) = ⊥
Same bs (got f) (got s) = Held bs f s

-- the answer is the rules' reading: the same number (0 for a readable file), and what a readable file says
pub record Reads (bs : List ℕ) (r : Result Counts Refusal) (offsets rows : List ℕ) : Type 0 where
  pub number_is : refusal_number r ≡ number_of (read_file bs)
  pub held : (f : JobFile) → read_file bs ≡ got f → (c : Counts) × (r ≡ Ok c) × Held bs f (state_of c offsets rows)
