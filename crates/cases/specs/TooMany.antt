-- One job more than are allowed (question 7), behind as many as are. Assumes nothing.
use Rattle.std.specs.Prelude.{◌≡◌, ◌&&◌, ℕ, zero, suc, ◌+◌, ◌*◌, ◌≤◌, length, leb, ltb}
use Rattle.std.proofs.Math.Path.{refl}
use Rattle.std.proofs.Common.{sym, ap, ◌∙◌, arith}
use mathlib.Core.List.{List, [], ◌∷◌, ◌++◌, append_assoc, append-nil}
use Rattle.std.proofs.Math.ListN.{length-append}
use Rattle.rules.specs.Sizes.{max_jobs, max_limit, max_file}
use Rattle.rules.specs.Basics.{choose, any, all}
use Rattle.rules.specs.Fields.{Answer, refused, got, ask, after, field}
use Rattle.rules.specs.JobFile.{JobFile, field_rows, first_row, field_row, name_byte, known_tag, in_place, length_ok, content_ok, with_job, job_of, add_field, complete}
use Rattle.rules.specs.JobFile.{counted, with_limit, is_need, no_fields, read_file}
use Rattle.rules.specs.Answers.{plan_table}
use Rattle.laws.specs.Tests.{T-leb, T-ltb, tests}
use Rattle.laws.specs.Fields.{ask-yes, ask-no}
use Rattle.laws.specs.JobFile.{place_same}
use Rattle.laws.specs.FileParts.{read_from, read_from-field}
use Rattle.cases.specs.Case.{job_field, job_fields, need_fields, file_of, scheduled}

-- the value of the field
abbrev job_value : List ℕ
job_value = 0 ∷ 0 ∷ 97 ∷ []

-- behind header and limit it is asked question 7, since 3 to 6 are yes
job-asked : (zs : List ℕ) (f : JobFile) → 2 ≤ f.fields
    → read_from (job_field ++ zs) 0 f ≡ after (ask (ltb (length f.jobs) max_jobs) 7 (got (with_job f (job_of job_value)))) (read_from zs 0)
unfolding job_field known_tag length_ok content_ok field_row first_row field_rows any all name_byte choose add_field
job-asked zs f late =
    read_from-field 3 job_value zs (omega arith) f
    ∙ ap (λ (r : Answer JobFile). after r (read_from zs 0))
    (ask-yes (known_tag 3) 4 _ tt ∙ ask-yes (in_place f.fields 3) 5 _ (place_same 2 f.fields 3 (omega arith) (unfold in_place choose in tt))
    ∙ ask-yes (length_ok 3 (length job_value) && content_ok 3 job_value) 6 _ tt)

-- where k more are allowed, the one behind them is refused
behind-all : (k : ℕ) (f : JobFile) → 2 ≤ f.fields → length f.jobs + k ≡ max_jobs → read_from (job_fields k ++ job_field) 0 f ≡ refused 7
unfolding job_fields after
behind-all zero f late full =
    ap (λ (bs : List ℕ). read_from bs 0 f) (sym (append-nil job_field)) ∙ job-asked [] f late
    ∙ ap (λ (r : Answer JobFile). after r (read_from [] 0))
    (ask-no (ltb (length f.jobs) max_jobs) 7 _ (λ t. omega (arith, (T-ltb (length f.jobs) max_jobs).0 t)))
behind-all (suc k) f late full =
    ap (λ (bs : List ℕ). read_from bs 0 f) (append_assoc job_field (job_fields k) job_field) ∙ job-asked (job_fields k ++ job_field) f late
    ∙ ap (λ (r : Answer JobFile). after r (read_from (job_fields k ++ job_field) 0))
    (ask-yes (ltb (length f.jobs) max_jobs) 7 _ ((T-ltb (length f.jobs) max_jobs).1 (omega arith)))
    ∙ behind-all k (with_job f (job_of job_value)) (unfold with_job in omega arith)
    (unfold with_job in omega (arith, length-append f.jobs (job_of job_value ∷ [])))

-- header and limit in front
front_read : (limit : ℕ) (zs : List ℕ) → 1 ≤ limit → limit ≤ max_limit
    → read_from (field 1 (1 ∷ []) ++ (field 2 (limit ∷ []) ++ zs)) 0 no_fields ≡ read_from zs 0 (with_limit (counted no_fields) limit)
unfolding known_tag in_place length_ok content_ok field_row first_row field_rows any choose no_fields counted add_field is_need after
front_read limit zs a b =
    read_from-field 1 (1 ∷ []) (field 2 (limit ∷ []) ++ zs) (omega arith) no_fields
    ∙ ap (λ (r : Answer JobFile). after r (read_from (field 2 (limit ∷ []) ++ zs) 0))
    (ask-yes (known_tag 1) 4 _ tt ∙ ask-yes (in_place 0 1) 5 _ tt ∙ ask-yes (length_ok 1 1 && content_ok 1 (1 ∷ [])) 6 _ tt)
    ∙ read_from-field 2 (limit ∷ []) zs (omega arith) (counted no_fields)
    ∙ ap (λ (r : Answer JobFile). after r (read_from zs 0))
    (ask-yes (known_tag 2) 4 _ tt ∙ ask-yes (in_place 1 2) 5 _ tt
    ∙ ask-yes (length_ok 2 1 && content_ok 2 (limit ∷ [])) 6 _ (simp tests (omega arith, omega arith)))

-- six bytes for each job
jobs-length : (n : ℕ) → length (job_fields n) ≡ 6 * n
unfolding job_fields job_field field
jobs-length zero = refl
jobs-length (suc n) = omega (arith, jobs-length n)

-- the file of the most jobs, and one more
one-too-many : (n limit : ℕ) → n ≡ max_jobs → 1 ≤ limit → limit ≤ max_limit → read_file (file_of n [] limit ++ job_field) ≡ refused 7
unfolding read_file after
one-too-many n limit all a b =
    ask-yes (leb (length (file_of n [] limit ++ job_field)) max_file) 2 _ ((T-leb (length (file_of n [] limit ++ job_field)) max_file).1 short)
    ∙ ap (λ (r : Answer JobFile). after r complete)
    (ap (λ (bs : List ℕ). read_from bs 0 no_fields) same ∙ front_read limit (job_fields n ++ job_field) a b
    ∙ behind-all n (with_limit (counted no_fields) limit) (unfold with_limit counted no_fields in omega arith) (unfold with_limit counted no_fields in omega arith))
  where
    same : file_of n [] limit ++ job_field ≡ field 1 (1 ∷ []) ++ (field 2 (limit ∷ []) ++ (job_fields n ++ job_field))
    same = unfold file_of need_fields field in rw (append-nil (job_fields n)) refl

    short : length (file_of n [] limit ++ job_field) ≤ max_file
    short = rw (same) (unfold field job_field in omega (arith, length-append (job_fields n) job_field, jobs-length n))

-- it gets no schedule
pub too-many-refused : scheduled (after (read_file (file_of max_jobs [] max_limit ++ job_field)) plan_table) ≡ refused 7
unfolding after scheduled
too-many-refused = ap (λ (r : Answer JobFile). scheduled (after r plan_table)) (one-too-many max_jobs max_limit refl (omega arith) (omega arith))
