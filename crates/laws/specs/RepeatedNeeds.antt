-- A need given twice (document 02, request 6): "the file is planned as if the later field were a comment", and no call gives 9. Assumes nothing.
use Rattle.std.specs.Prelude.{◌≡◌, not, ◌&&◌, ℕ, ◌-◌, ◌≤◌, ◌<◌, length, take, T, eqb}
use Rattle.std.proofs.Math.Path.{sym, ap}
use Rattle.std.proofs.Common.{subst, ◌∙◌, arith, take-append-drop, length-take-le}
use mathlib.Core.List.{List, [], ◌∷◌}
use Rattle.std.proofs.Math.ListN.{drop, length-append, get_or-append}
use Rattle.rules.specs.Basics.{at}
use Rattle.rules.specs.Numbers.{Bytes}
use Rattle.rules.specs.Fields.{got, field_end, value, whole}
use Rattle.rules.specs.Needs.{Gives, one, more, Circle}
use Rattle.rules.specs.JobFile.{JobFile, length_ok, counted, with_limit, with_sockets, with_job}
use Rattle.rules.specs.JobFile.{with_need, job_of, is_need, giver_of, taker_of, need_of, is_job, add_field, read_field, no_fields, read_file}
use Rattle.laws.specs.Tests.{tests}
use Rattle.laws.specs.Fields.{ask-got, after-got, whole_is, over_fields-keeps}
use Rattle.laws.specs.Needs.{insert-keeps, insert-there}
use Rattle.laws.specs.JobFile.{added}
use Rattle.laws.specs.FileParts.{FieldsTo, read_from, read_from-step, fields_read, read_through, fields-cut, value-front, ask_field}
use Rattle.laws.specs.FileParts.{need-asked}

-- a need stands at offset a: a whole field with tag 4 or 6 and the length of its tag, behind whole fields
pub record NeedField (bs : List ℕ) (a : ℕ) : Type 0 where
  pub before : FieldsTo bs a 0
  pub is_whole : T (whole bs a)
  pub tag_is : T (is_need (at bs a))
  pub long : T (length_ok (at bs a) (length (value bs a)))

-- the numbers of its giver and of its taker
abbrev pub giver_at : List ℕ → ℕ → ℕ
giver_at bs a = giver_of (at bs a) (value bs a)

abbrev pub taker_at : List ℕ → ℕ → ℕ
taker_at bs a = taker_of (at bs a) (value bs a)

-- ---- what a field leaves of what was read before it

-- from s to t: fields, jobs and needs of s are still there
record Later (s t : JobFile) : Type 0 where
  fields : s.fields ≤ t.fields
  jobs : length s.jobs ≤ length t.jobs
  needs : (g k : ℕ) → Gives s.needs g k → Gives t.needs g k

-- so they are after each field
add-later : (s f e : JobFile) (tag : ℕ) (v : List ℕ) → Later s f → add_field f tag v ≡ got e → Later s e
unfolding with_limit with_job with_need with_sockets counted
add-later s f e tag v l =
    added (Later s) f e tag v (on (with_limit f (at v 0)) (omega arith) (omega arith) (λ g k m. m))
    (on (with_job f (job_of v)) (omega arith) (omega (arith, length-append f.jobs (job_of v ∷ []))) (λ g k m. m))
    (λ _. on (with_need f (need_of tag v)) (omega arith) (omega arith) (insert-keeps f.needs (need_of tag v)))
    (on (with_sockets f (at v 0)) (omega arith) (omega arith) (λ g k m. m)) (on (counted f) (omega arith) (omega arith) (λ g k m. m))
  where
    on : (x : JobFile) → f.fields ≤ x.fields → length f.jobs ≤ length x.jobs → ((g k : ℕ) → Gives f.needs g k → Gives x.needs g k) → Later s x
    on x a b c = record { fields = omega (arith, a, l.fields); jobs = omega (arith, b, l.jobs); needs = λ g k m. c g k (l.needs g k m) }

-- and after all fields from offset a on
read-later : (bs : List ℕ) (a : ℕ) (s t : JobFile) → read_from bs a s ≡ got t → Later s t
unfolding read_field
read-later bs a s t =
    over_fields-keeps (read_field bs) (Later s) (λ f e i l q.
    add-later s f e _ _ l (ask-got _ 6 _ e (ask-got _ 5 _ e (ask-got _ 4 _ e (ask-got _ 3 _ e q).1).1).1).1)
    (length bs) bs a s t record { fields = omega arith; jobs = omega arith; needs = λ g k m. m }

-- ---- a need that was read

-- question 8 of a need with these numbers
abbrev pub BothJobs : ℕ → ℕ → JobFile → Type 0
BothJobs g k f = let n = length f.jobs in T (is_job n g && (is_job n k && not (eqb g k)))

-- what is known where a need with these numbers was read before
pub record Taken (g k : ℕ) (f : JobFile) : Type 0 where
  pub late : 2 ≤ f.fields
  pub both-jobs : BothJobs g k f
  pub there : Gives f.needs (g - 1) (k - 1)

-- so it is behind its field
need-taken : (tag : ℕ) (v : List ℕ) → T (is_need tag) → (f e : JobFile) → ask_field f tag v ≡ got e → Taken (giver_of tag v) (taker_of tag v) e
unfolding with_need
need-taken tag v need f e q =
    let w = need-asked f e tag v need q in
    subst (Taken (giver_of tag v) (taker_of tag v)) w.reads record
    { late = omega (arith, w.late); both-jobs = w.both-jobs; there = insert-there f.needs (need_of tag v) }

-- and stays so
still-taken : (g k : ℕ) (f e : JobFile) → Later f e → Taken g k f → Taken g k e
unfolding is_job
still-taken g k f e l t = record {
  late = omega (arith, l.fields, t.late);
  both-jobs = let w = simp tests at t.both-jobs in
      simp tests ((w.0.0, omega (arith, w.0.1, l.jobs)), ((w.1.0.0, omega (arith, w.1.0.1, l.jobs)), w.1.1));
  there = l.needs (g - 1) (k - 1) t.there;
}

-- a need at offset a is read, where nothing is refused
need-read : (bs : List ℕ) (a : ℕ) → FieldsTo bs a 0 → a < length bs → T (is_need (at bs a)) → (f e : JobFile) → read_from bs 0 f ≡ got e
    → T (whole bs a) × Taken (giver_at bs a) (taker_at bs a) e
unfolding read_field
need-read bs a before inside need f e r =
    let p = read_through bs a 0 before f e r in
    let q = after-got (read_field bs p.0 a) (read_from bs (field_end bs a)) e (sym (read_from-step bs a p.0 inside) ∙ p.1) in
    let here = ask-got (whole bs a) 3 _ q.0 q.1 in
    let taken = need-taken (at bs a) (value bs a) need p.0 q.0 here.1 in
    (here.0, still-taken (giver_at bs a) (taker_at bs a) q.0 e (read-later bs (field_end bs a) q.0 e q.2) taken)

-- ---- "the file is planned as if the later field were a comment"

-- a file with needs at the offsets a and b that say the same pair
module _ (bs : List ℕ) (bytes : Bytes bs) (a b : ℕ) (first : NeedField bs a) (again : NeedField bs b) (later : a < b)
    (giver : giver_at bs b ≡ giver_at bs a) (taker : taker_at bs b ≡ taker_at bs a) where
  -- the bytes before the later need
  abbrev xs : List ℕ
  xs = take b bs

  -- the part before the later need
  size : length xs ≡ b
  size = length-take-le b bs (omega (arith, (whole_is bs b).0 again.is_whole))

  -- the first need is read there
  pub taken : (f : JobFile) → read_from xs 0 no_fields ≡ got f → Taken (giver_at bs b) (taker_at bs b) f
  taken f e =
      let before = fields-cut xs (drop b bs) a 0 (rw (take-append-drop b bs) first.before) (omega (arith, size, later)) in
      let tag : at xs a ≡ at bs a = sym (get_or-append xs (drop b bs) 0 a (omega (arith, size, later)))
      ∙ ap (λ (l : List ℕ). at l a) (take-append-drop b bs) in
      let r = need-read xs a before (omega (arith, size, later)) (rw tag first.tag_is) no_fields f e in
      let v : value xs a ≡ value bs a = sym (value-front xs (drop b bs) a r.0) ∙ ap (λ (l : List ℕ). value l a) (take-append-drop b bs) in
      rw (giver, taker) (rw (tag, v) at r.1)

-- ---- every need counts, and the pair the other way round is another one

module _ (bs : List ℕ) (f : JobFile) (read : read_file bs ≡ got f) where
  -- a need of a readable file is among its needs
  pub need-given : (a : ℕ) → NeedField bs a → Gives f.needs (giver_at bs a - 1) (taker_at bs a - 1)
  need-given a n =
      (need-read bs a n.before (omega (arith, (whole_is bs a).0 n.is_whole)) n.tag_is no_fields f (fields_read bs f read)).1.there

  -- both ways are two needs, and a circle: planner and check answer 11 (`answers-11`, `checks-11`)
  pub swapped-circle : (a b : ℕ) → NeedField bs a → NeedField bs b → (giver_at bs b ≡ taker_at bs a) × (taker_at bs b ≡ giver_at bs a)
      → Circle f.needs
  swapped-circle a b n m (giver, taker) =
      let g = giver_at bs a - 1 in
      let k = taker_at bs a - 1 in
      (g, more g k g (need-given a n) (one k g (rw (← giver, ← taker) (need-given b m))))
