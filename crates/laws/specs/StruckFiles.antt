-- Needs that follow from others, struck from a job file: the bytes that are left say the same but for these needs, and windows, width, and the answers of
-- planner and check stay (document 02, request 5). Assumes nothing.
use Rattle.std.specs.Prelude.{◌≡◌, ◌↔◌, Bool, not, ℕ, suc, ◌<◌, min, length, T, eqb, pos, ◌-ℤ◌}
use Rattle.std.proofs.Math.Path.{refl, ap, subst}
use Rattle.std.proofs.Common.{sym, ◌∙◌, arith}
use mathlib.Core.List.{List, [], ◌∷◌, ◌++◌, append-nil}
use Rattle.rules.specs.Basics.{at, filter}
use Rattle.rules.specs.Numbers.{Bytes}
use Rattle.rules.specs.Fields.{got, after, value}
use Rattle.rules.specs.Needs.{Need, Gives, givesb, insert_need, Circle, circle_free}
use Rattle.rules.specs.JobFile.{JobFile, counted, with_limit, with_sockets, with_job, with_need, job_of, is_need, need_of}
use Rattle.rules.specs.JobFile.{add_need, add_sockets, add_field, no_fields, complete, read_file}
use Rattle.rules.specs.Windows.{release, tail}
use Rattle.rules.specs.Answers.{plan, check}
use Rattle.rules.specs.Implied.{implied_needs, implied_in, struck, need_at, strike}
use Rattle.laws.specs.Tests.{T_and, T_not, tests, by-test, by-choice, choose_yes, choose_no}
use Rattle.laws.specs.Lists.{filter-mem, filter-mem⁻¹, filter-append}
use Rattle.laws.specs.Fields.{got_same, ask-got, after-got, ask-yes, GotBeside, got-beside, ask-beside, choose-beside}
use Rattle.laws.specs.JobFile.{Readable, needs-in, place_same, readable}
use Rattle.laws.specs.Program.{gives-is}
use Rattle.laws.specs.Needs.{insert-known, insert-new}
use Rattle.laws.specs.Circles.{circle-free}
use Rattle.laws.specs.Width.{file_width}
use Rattle.laws.specs.FileParts.{ask_field, ask_field-beside, need-asked}
use Rattle.laws.specs.FieldsBut.{fields_but-bytes, read_file-but}
use Rattle.laws.specs.Struck.{Shorter, struck-shorter, shorter-in, shorter-free}
use Rattle.laws.specs.Struck.{struck-none}

-- s with k fields, and ds for its needs
abbrev pub with_needs : ℕ → List Need → JobFile → JobFile
with_needs k ds s = record { fields = k; limit = s.limit; sockets = s.sockets; jobs = s.jobs; needs = ds }

-- ---- two readings, with all needs and with those that pass p

module _ (p : Need → Bool) where
  -- s with k fields, without the needs that do not pass
  abbrev fewer : ℕ → JobFile → JobFile
  fewer k s = with_needs k (filter p s.needs) s

  -- the second has read what the first has, without these needs; question 5 does not tell their numbers of fields apart
  record Beside (s t : JobFile) : Type 0 where
    count : ℕ
    reads : t ≡ fewer count s
    place : min 2 s.fields ≡ min 2 count

  -- one need more that passes: a pair that is there already is so among those that pass
  one_left : (ds : List Need) (d : Need) → T (p d) → filter p (insert_need ds d) ≡ insert_need (filter p ds) d
  unfolding filter
  one_left ds d h = go (by-test (givesb ds d.0 d.1) (gives-is ds d.0 d.1))
    where
      go : Dec (Gives ds d.0 d.1) → filter p (insert_need ds d) ≡ insert_need (filter p ds) d
      go (yes m) = rw (insert-known ds d m, insert-known (filter p ds) d (filter-mem p ds d m h)) refl
      go (no n) =
          rw (insert-new ds d n, insert-new (filter p ds) d (λ m. n (filter-mem⁻¹ p ds d m).0))
          (filter-append p ds (d ∷ []) ∙ ap (λ (l : List Need). filter p ds ++ l) (choose_yes (p d) (d ∷ []) [] h))

  -- one that does not pass, first of its pair or not
  one-gone : (ds : List Need) (d : Need) → (T (p d) → ⊥) → filter p (insert_need ds d) ≡ filter p ds
  unfolding filter insert_need
  one-gone ds d h =
      by-choice (λ (l : List Need). filter p l ≡ filter p ds) (givesb ds d.0 d.1) (λ _. refl)
      (λ _. filter-append p ds (d ∷ []) ∙ ap (λ (l : List Need). filter p ds ++ l) (choose_no (p d) (d ∷ []) [] h) ∙ append-nil (filter p ds))

  -- a file read by both
  file-beside : {u : JobFile} (k : ℕ) (s : JobFile) → min 2 s.fields ≡ min 2 k → got s ≡ got u → GotBeside Beside u (got (fewer k s))
  file-beside k s h = got-beside Beside s (fewer k s) record { count = k; reads = refl; place = h }

  -- what a field adds to both, where it is no need or one that passes
  add-beside : (k : ℕ) (s u : JobFile) (tag : ℕ) (v : List ℕ) → min 2 s.fields ≡ min 2 k → (T (is_need tag) → T (p (need_of tag v)))
      → add_field s tag v ≡ got u → GotBeside Beside u (add_field (fewer k s) tag v)
  unfolding add_field add_need add_sockets counted with_limit with_sockets with_job with_need
  add-beside k s u tag v h passes =
      choose-beside Beside (eqb tag 2) (λ _. file-beside (suc k) (with_limit s (at v 0)) (omega arith))
      (choose-beside Beside (eqb tag 3) (λ _. ask-beside Beside _ _ 7 (λ t. t) (file-beside (suc k) (with_job s (job_of v)) (omega arith)))
      (choose-beside Beside (is_need tag) (λ need. ask-beside Beside _ _ 8 (λ t. t)
      (rw (← (one_left s.needs (need_of tag v) (passes need))) (file-beside (suc k) (with_need s (need_of tag v)) (omega arith))))
      (choose-beside Beside (eqb tag 9) (λ _. ask-beside Beside _ _ 21 (λ t. t) (file-beside (suc k) (with_sockets s (at v 0)) (omega arith)))
      (file-beside (suc k) (counted s) (omega arith)))))

  -- a field that both read
  kept-beside : (s t u : JobFile) (tag : ℕ) (v : List ℕ) → (T (is_need tag) → T (p (need_of tag v)))
      → Beside s t → ask_field s tag v ≡ got u → GotBeside Beside u (ask_field t tag v)
  kept-beside s t u tag v passes b =
      rw b.reads (ask_field-beside Beside s (fewer b.count s) tag v (place_same s.fields b.count tag b.place)
      (add-beside b.count s u tag v b.place passes))

  -- a need that does not pass, read by the first alone; it stands behind header and limit
  gone-beside : (s t u : JobFile) (tag : ℕ) (v : List ℕ) → T (is_need tag) → (T (p (need_of tag v)) → ⊥) → Beside s t → ask_field s tag v ≡ got u → Beside u t
  unfolding with_need
  gone-beside s t u tag v need fails b e =
      let w = need-asked s u tag v need e in
      subst (λ (x : JobFile). Beside x t) w.reads record {
        count = b.count;
        reads = b.reads ∙ ap (λ (ds : List Need). with_needs b.count ds s) (sym (one-gone s.needs (need_of tag v) fails));
        place = omega (arith, b.place, w.late);
      }

  -- question 10 is answered by both
  complete-beside : (s t u : JobFile) → Beside s t → complete s ≡ got u → GotBeside Beside u (complete t)
  unfolding complete
  complete-beside s t u b =
      rw b.reads (ask-beside Beside _ _ 10 (λ h. simp tests (omega (arith, (simp tests at h).0, b.place), (simp tests at h).1))
      (file-beside b.count s b.place))

-- ---- the bytes that are left

-- g says what f says but for the needs ds
pub record StruckFrom (ds : List Need) (f g : JobFile) : Type 0 where
  pub limit : g.limit ≡ f.limit
  pub sockets : g.sockets ≡ f.sockets
  pub jobs : g.jobs ≡ f.jobs
  pub needs : g.needs ≡ struck ds f.needs

-- striking any needs leaves a readable file that says this
pub strike-read : (ds : List Need) (bs : List ℕ) → Bytes bs → (f : JobFile) → read_file bs ≡ got f
    → (g : JobFile) × (read_file (strike ds bs) ≡ got g) × StruckFrom ds f g
unfolding strike need_at struck no_fields filter
strike-read ds bs bytes f read =
    let start : Beside p no_fields no_fields = record { count = 0; reads = refl; place = refl } in
    let (g, says, b) = read_file-but (need_at ds bs) bs bytes (Beside p) gone kept start (complete-beside p) f read in
    (g, says, from g b)
  where
    p : Need → Bool
    p d = not (givesb ds d.0 d.1)

    gone : (s t u : JobFile) (a : ℕ) → T (need_at ds bs a) → Beside p s t → ask_field s (at bs a) (value bs a) ≡ got u → Beside p u t
    gone s t u a h =
        let d = need_of (at bs a) (value bs a) in
        let w = (T_and (is_need (at bs a)) (givesb ds d.0 d.1)).0 h in
        gone-beside p s t u (at bs a) (value bs a) w.0 (λ k. (T_not (givesb ds d.0 d.1)).0 k w.1)

    kept : (s t u : JobFile) (a : ℕ) → (T (need_at ds bs a) → ⊥) → Beside p s t → ask_field s (at bs a) (value bs a) ≡ got u
        → GotBeside (Beside p) u (ask_field t (at bs a) (value bs a))
    kept s t u a h =
        let d = need_of (at bs a) (value bs a) in
        kept-beside p s t u (at bs a) (value bs a) (λ need. (T_not (givesb ds d.0 d.1)).1 (λ k. h ((T_and (is_need (at bs a)) _).1 (need, k))))

    from : (g : JobFile) → Beside p f g → StruckFrom ds f g
    from g b = record {
      limit = ap (λ (x : JobFile). x.limit) b.reads;
      sockets = ap (λ (x : JobFile). x.sockets) b.reads;
      jobs = ap (λ (x : JobFile). x.jobs) b.reads;
      needs = ap (λ (x : JobFile). x.needs) b.reads;
    }

-- ---- what stays

-- from the file bs, that says f, to the file zs, that says g: releases, deadlines under every limit, the width, the planner's answer with every byte of both
-- buffers, and the check's answer
pub record Unchanged (bs zs : List ℕ) (f g : JobFile) : Type 0 where
  pub releases : (i : ℕ) → i < length f.jobs → release (length g.jobs) g.needs i ≡ release (length f.jobs) f.needs i
  pub deadlines : (L i : ℕ) → i < length f.jobs
      → pos L -ℤ pos (tail (length g.jobs) g.needs i) ≡ pos L -ℤ pos (tail (length f.jobs) f.needs i)
  pub width : file_width g ≡ file_width f
  pub planned : (work table : List ℕ) → plan zs work table ≡ plan bs work table
  pub checked : (table : List ℕ) → check zs table ≡ check bs table

-- f without a circle, and what is left of it, with k fields
module _ {f : JobFile} (ok : Readable f) (free : ¬ (Circle f.needs)) (k : ℕ) where
  -- the number of jobs
  abbrev n : ℕ
  n = length f.jobs

  -- its needs that do not follow from others, and what is left
  abbrev es : List Need
  es = struck (implied_needs n f.needs) f.needs

  -- the others have chains beside them
  pub shorter : Shorter f.needs es
  shorter = struck-shorter (needs-in f ok) free

  -- it has no circle: question 11 is answered yes
  pub left-free : T (circle_free n es)
  left-free = (circle-free n es (shorter-in (needs-in f ok) free shorter)).1 (shorter-free (needs-in f ok) free shorter)

-- that is what the struck file says
pub struck-is : {ds : List Need} {f g : JobFile} → StruckFrom ds f g → g ≡ with_needs g.fields (struck ds f.needs) f
struck-is {ds} {f} {g} w = λ i. record { fields = g.fields; limit = w.limit i; sockets = w.sockets i; jobs = w.jobs i; needs = w.needs i }

-- ---- "Striking all of them from a file without a circle"

module _ (bs : List ℕ) (bytes : Bytes bs) (f : JobFile) (read : read_file bs ≡ got f) (free : ¬ (Circle f.needs)) where
  -- the needs that follow from others
  abbrev ds : List Need
  ds = implied_needs (length f.jobs) f.needs

  -- once is enough: of the needs of the struck file none follows from others
  pub strike-none : implied_in (strike ds bs) ≡ got []
  unfolding implied_in after
  strike-none =
      let (g, says, w) = strike-read ds bs bytes f read in
      let ok = readable bs bytes f read in
      rw (says ∙ ap got (struck-is w)) (ask-yes _ 11 _ (left-free ok free g.fields) ∙ ap got (struck-none (needs-in f ok) free))

-- a file gets a list exactly where it is readable and has no circle, and it is that of its needs that follow from others
pub listed-is : (bs : List ℕ) → Bytes bs → (ds : List Need)
    → (implied_in bs ≡ got ds) ↔ ((f : JobFile) × (read_file bs ≡ got f) × ¬ (Circle f.needs) × (ds ≡ implied_needs (length f.jobs) f.needs))
unfolding implied_in after
listed-is bs bytes ds = (to, from)
  where
    to : implied_in bs ≡ got ds → (f : JobFile) × (read_file bs ≡ got f) × ¬ (Circle f.needs) × (ds ≡ implied_needs (length f.jobs) f.needs)
    to e =
        let (f, read, rest) = after-got (read_file bs) _ ds e in
        let n = length f.jobs in
        let q = ask-got (circle_free n f.needs) 11 (got (implied_needs n f.needs)) ds rest in
        (f, read, (circle-free n f.needs (needs-in f (readable bs bytes f read))).0 q.0, sym (got_same _ ds q.1))

    from : (f : JobFile) × (read_file bs ≡ got f) × ¬ (Circle f.needs) × (ds ≡ implied_needs (length f.jobs) f.needs) → implied_in bs ≡ got ds
    from (f, read, free, same) =
        rw read (ask-yes _ 11 _ ((circle-free (length f.jobs) f.needs (needs-in f (readable bs bytes f read))).1 free) ∙ ap got (sym same))

-- the struck file is one of bytes, so that all laws of files speak of it
pub strike-bytes : (ds : List Need) (bs : List ℕ) → Bytes bs → Bytes (strike ds bs)
unfolding strike
strike-bytes ds bs bytes = fields_but-bytes (need_at ds bs) bs bytes (length bs) 0
