-- The reader's state holds what the rules' reading has read: each field keeps it so. Assumes nothing.
use Rattle.std.specs.Prelude.{◌≡◌, Bool, not, List, [], ◌∷◌, ◌++◌, ℕ, zero, suc, ◌+◌, ◌-◌, ◌*◌, ◌≤◌, ◌<◌, set, eqb, Option, Some}
use Rattle.std.proofs.Math.Path.{refl}
use Rattle.std.proofs.Common.{sym, ◌∙◌, true≢false, arith, length-set, get_or-set_same, get_or-set_other}
use Rattle.std.proofs.Math.Bool.{true, false}
use Rattle.std.proofs.lemmas.Bool.{false≢true}
use Rattle.std.proofs.Math.Decide.{ℕ_discrete}
use Rattle.std.proofs.Math.ListN.{length, length-append, get_or-append}
use Rattle.std.proofs.Math.Seq.{get_or-append_seam}
use Rattle.std.proofs.Math.Dec.{T}
use Rattle.rules.specs.Sizes.{max_jobs}
use Rattle.rules.specs.Basics.{choose, at}
use Rattle.rules.specs.Fields.{Answer, ask, value, whole}
use Rattle.rules.specs.JobFile.{JobFile, nth_job, counted, with_limit, with_sockets, with_job, with_need, job_of, is_need, giver_of, taker_of, is_job}
use Rattle.rules.specs.JobFile.{add_need, add_sockets, add_field, content_ok}
use Rattle.laws.specs.Tests.{tests, T-ltb}
use Rattle.laws.specs.Needs.{insert-each}
use Rattle.needrows.specs.Rows.{row_bytes}
use Rattle.needrows.specs.Laws.{rows-add, length-add, length-without_row, rows-clear}
use borrow.Author.Tests.{ne_eqb}
use Rattle.std.specs.Option.{is_some}
use Rattle.jobfile.specs.Reading.{given, State, one_more, linked, with_offset, take_need, take_sockets, take_field, Held, Same}

-- ---- the same questions keep two answers the same

module _ (bs : List ℕ) where
  pub same-ask : (b c : Bool) (q : ℕ) (x : Answer JobFile) (y : Answer State) → b ≡ c → (T b → Same bs x y) → Same bs (ask b q x) (ask c q y)
  unfolding ask Same
  same-ask true true q x y e h = h tt
  same-ask true false q x y e h = absurd (true≢false e)
  same-ask false true q x y e h = absurd (false≢true e)
  same-ask false false q x y e h = refl

  same-choose : (b : Bool) (x x' : Answer JobFile) (y y' : Answer State) → (T b → Same bs x y) → Same bs x' y' → Same bs (choose b x x') (choose b y y')
  unfolding choose
  same-choose true x x' y y' p q = p tt
  same-choose false x x' y y' p q = q

-- ---- the most boards

-- they are given where they are not 0
given_is : (b : ℕ) → not (is_some (given b)) ≡ eqb b 0
given_is zero = refl
given_is (suc b) = sym (ne_eqb (suc b) 0 (λ e. omega arith))

pub given-some : (b : ℕ) → 1 ≤ b → Some b ≡ given b
given-some zero h = absurd (omega arith)
given-some (suc b) h = refl

-- ---- one field more

module _ (bs : List ℕ) (f : JobFile) (s : State) (held : Held bs f s) where
  -- the count of fields, the limit and the sockets are all that changes
  pub recounted : (k k' l l' : ℕ) (b : Option ℕ) (b' : ℕ) → k ≡ k' → l ≡ l' → b ≡ given b'
      → Held bs (record { fields = k'; limit = l'; sockets = b'; jobs = f.jobs; needs = f.needs })
      (record { fields = k; limit = l; sockets = b; jobs = s.jobs; offsets = s.offsets; rows = s.rows })
  recounted k k' l l' b b' e q w = record {
    fields-is = e;
    limit_is = q;
    sockets-is = w;
    jobs-is = held.jobs-is;
    few = held.few;
    sizes = held.sizes;
    offsets-whole = held.offsets-whole;
    offsets_are = held.offsets_are;
    needs-in = held.needs-in;
    rows_are = held.rows_are;
  }

  one_more_lem : s.fields + 1 ≡ suc f.fields
  one_more_lem = omega (arith, held.fields-is)

  counted-held : Held bs (counted f) (one_more s s.limit s.sockets)
  unfolding counted
  counted-held = recounted (s.fields + 1) (suc f.fields) s.limit f.limit s.sockets f.sockets one_more_lem held.limit_is held.sockets-is

  limit-held : (l : ℕ) → Held bs (with_limit f l) (one_more s l s.sockets)
  unfolding with_limit
  limit-held l = recounted (s.fields + 1) (suc f.fields) l l s.sockets f.sockets one_more_lem refl held.sockets-is

  sockets-held : (b : ℕ) → Held bs (with_sockets f b) (one_more s s.limit (given b))
  unfolding with_sockets
  sockets-held b = recounted (s.fields + 1) (suc f.fields) s.limit f.limit (given b) b one_more_lem held.limit_is refl

  job-held : (a : ℕ) → T (whole bs a) → s.jobs < max_jobs → Held bs (with_job f (job_of (value bs a))) (with_offset s a)
  unfolding with_job
  job-held a w h = record {
    fields-is = one_more_lem;
    limit_is = held.limit_is;
    sockets-is = held.sockets-is;
    jobs-is = omega (arith, held.jobs-is, length-append f.jobs (job_of (value bs a) ∷ []));
    few = omega arith;
    sizes = (length-set s.offsets s.jobs a ∙ held.sizes.0, omega (arith, held.sizes.1, length-without_row s.rows s.jobs room));
    offsets-whole = λ i l. here i l (ℕ_discrete i s.jobs) (λ x. T (whole bs x)) w (held.offsets-whole i);
    offsets_are = λ i l. job i l (ℕ_discrete i s.jobs);
    needs-in = λ g k m. let v = held.needs-in g k m in (omega (arith, v.0), omega (arith, v.1));
    rows_are = rows-clear s.rows s.jobs f.needs room held.needs-in held.rows_are;
  }
    where
      room : row_bytes * s.jobs + row_bytes ≤ length s.rows
      room = omega (arith, held.sizes.1)

      here : (i : ℕ) → i < s.jobs + 1 → Dec (i ≡ s.jobs) → (P : ℕ → Type 0) → P a → (i < s.jobs → P (at s.offsets i))
          → P (at (set s.offsets s.jobs a) i)
      here i l (yes e) P p q = rw (e, get_or-set_same s.offsets s.jobs a 0 (omega (arith, held.sizes))) p
      here i l (no n) P p q = rw (get_or-set_other s.offsets s.jobs i a 0 n) (q (omega arith))

      job : (i : ℕ) → i < s.jobs + 1 → Dec (i ≡ s.jobs) → job_of (value bs (at (set s.offsets s.jobs a) i))
          ≡ nth_job (f.jobs ++ job_of (value bs a) ∷ []) i
      job i l (yes e) = rw (
        e,
        get_or-set_same s.offsets s.jobs a 0 (omega (arith, held.sizes)),
        held.jobs-is,
      ) (sym (get_or-append_seam f.jobs (job_of (value bs a)) [] _))
      job i l (no n) = rw (get_or-set_other s.offsets s.jobs i a 0 n) (held.offsets_are i (omega arith)
          ∙ sym (get_or-append f.jobs (job_of (value bs a) ∷ []) _ i (omega (arith, held.jobs-is))))

  need-held : (g k : ℕ) → g < s.jobs → k < s.jobs → Held bs (with_need f (g, k)) (linked s g k)
  unfolding with_need linked
  need-held g k h l = record {
    fields-is = one_more_lem;
    limit_is = held.limit_is;
    sockets-is = held.sockets-is;
    jobs-is = held.jobs-is;
    few = held.few;
    sizes = (held.sizes.0, omega (arith, held.sizes.1, length-add s.rows g k));
    offsets-whole = held.offsets-whole;
    offsets_are = held.offsets_are;
    needs-in = λ a b m. insert-each f.needs (g, k) (λ d. (d.0 < s.jobs) × (d.1 < s.jobs)) (λ d w. held.needs-in d.0 d.1 w) (h, l) (a, b) m;
    rows_are = rows-add s.rows s.jobs f.needs g k (omega (arith, held.sizes.1, held.few)) (omega (arith, held.few)) held.rows_are;
  }

  need-same : (g k : ℕ) → Same bs (add_need f g k) (take_need s g k)
  unfolding add_need take_need Same is_job
  need-same g k =
      same-ask bs _ _ 8 _ _ (rw held.jobs-is refl) (λ t.
      let w = simp tests at t in
      need-held (g - 1) (k - 1) (omega (arith, w, held.jobs-is)) (omega (arith, w, held.jobs-is)))

  sockets-same : (b : ℕ) → Same bs (add_sockets f b) (take_sockets s b)
  unfolding add_sockets take_sockets Same
  sockets-same b = same-ask bs _ _ 21 _ _ (rw held.sockets-is (sym (given_is f.sockets))) (λ _. sockets-held b)

  -- the rest of a field's questions
  pub field-same : (tag a : ℕ) → T (whole bs a) → Same bs (ask (content_ok tag (value bs a)) 6 (add_field f tag (value bs a))) (take_field s tag a (value bs a))
  unfolding add_field take_field Same
  field-same tag a w =
      same-ask bs _ _ 6 _ _ refl (λ _.
      same-choose bs (eqb tag 2) _ _ _ _ (λ _. limit-held (at (value bs a) 0))
      (same-choose bs (eqb tag 3) _ _ _ _
      (λ _. same-ask bs _ _ 7 _ _ (rw held.jobs-is refl) (λ t. job-held a w (omega (arith, (T-ltb (length f.jobs) max_jobs).0 t, held.jobs-is))))
      (same-choose bs (is_need tag) _ _ _ _ (λ _. need-same (giver_of tag (value bs a)) (taker_of tag (value bs a)))
      (same-choose bs (eqb tag 9) _ _ _ _ (λ _. sockets-same (at (value bs a) 0)) counted-held))))
