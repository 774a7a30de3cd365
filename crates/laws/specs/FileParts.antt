-- Reading a job file that is put together of parts: the fields of the first part, and then those of the rest. Assumes nothing.
use Rattle.std.specs.Prelude.{◌≡◌, not, ◌&&◌, drop, T, leb, ltb, eqb}
use Rattle.std.proofs.Math.Path.{refl, sym, ap, fun_ext}
use Rattle.std.proofs.Common.{◌∙◌}
use mathlib.Core.List.{List, [], ◌++◌}
use Prim.Native.Nat.{ℕ, zero, suc, ◌+◌, ◌-◌, ◌≤◌, ◌<◌}
use native.Mathlib.Omega.{arith}
use Rattle.std.proofs.Math.ListN.{length, take, length-append, length-drop, get_or-append}
use Rattle.std.proofs.Math.Seq.{take-append-le, drop-append-add, get_or-append-add}
use Rattle.std.proofs.lemmas.List.{drop-append-le}
use Rattle.rules.specs.Sizes.{max_file}
use Rattle.rules.specs.Basics.{choose, at}
use Rattle.rules.specs.Fields.{Answer, refused, got, ask, after, part, field, field_end, value, whole, over_fields}
use Rattle.rules.specs.JobFile.{JobFile, known_tag, in_place, length_ok, content_ok, with_need, is_need, giver_of, taker_of, need_of, is_job}
use Rattle.rules.specs.JobFile.{add_need, add_field, read_field, no_fields, complete, read_file}
use Rattle.laws.specs.Tests.{T_and, T-leb, T-ltb, bool-ext, by-choice}
use Rattle.laws.specs.Fields.{got_same, ask-got, after-got, ask-yes, GotBeside, got-beside, ask-beside, choose-beside, after-beside}
use Rattle.laws.specs.Fields.{whole_is, after-head, over_fields-step, over_fields-end, over_fields-enough}
use Rattle.laws.specs.JobFile.{place-late, need-late, add-need}
use Rattle.laws.specs.Table.{field-at}

-- ---- what is read from an offset on

-- from offset a to before offset e the file is whole fields
pub data FieldsTo (bs : List ℕ) (e : ℕ) : ℕ → Type 0 where
  done : (a : ℕ) → a ≡ e → FieldsTo bs e a
  more : (a : ℕ) → T (whole bs a) → FieldsTo bs e (field_end bs a) → FieldsTo bs e a

-- from offset a on
abbrev pub FieldsFrom : List ℕ → ℕ → Type 0
FieldsFrom bs a = FieldsTo bs (length bs) a

-- a whole number of fields
abbrev pub Fields : List ℕ → Type 0
Fields xs = FieldsFrom xs 0

-- the fields from offset a on, after what was read before them
abbrev pub read_from : List ℕ → ℕ → JobFile → Answer JobFile
read_from bs a f = over_fields (read_field bs) (length bs) bs a f

-- `after` is associative
after-assoc : {A B C : Type 0} (r : Answer A) (f : A → Answer B) (g : B → Answer C) → after (after r f) g ≡ after r (λ a. after (f a) g)
unfolding after
after-assoc (refused q) f g = refl
after-assoc (got a) f g = refl

module _ {A : Type 0} (step : A → ℕ → Answer A) where
  -- a bound that is enough, and a greater one
  over_fields-more : (d k : ℕ) (bs : List ℕ) (a : ℕ) (s : A) → length bs - a ≤ k → over_fields step (d + k) bs a s ≡ over_fields step k bs a s
  over_fields-more zero k bs a s h = ap (λ (n : ℕ). over_fields step n bs a s) (omega arith)
  over_fields-more (suc d) k bs a s h =
      ap (λ (n : ℕ). over_fields step n bs a s) (omega arith) ∙ over_fields-enough step (d + k) bs a s (omega arith) ∙ over_fields-more d k bs a s h

  -- any two bounds that are enough give the same
  pub over_fields-bounds : (j k : ℕ) (bs : List ℕ) (a : ℕ) (s : A) → length bs - a ≤ j → length bs - a ≤ k → over_fields step j bs a s ≡ over_fields step k bs a s
  over_fields-bounds j k bs a s g h = sym (over_fields-more k j bs a s g) ∙ ap (λ (n : ℕ). over_fields step n bs a s) (omega arith) ∙ over_fields-more j k bs a s h

  -- two readings of the same fields, the first not refused: where no field refuses the second and each keeps R between them, so do all fields
  pub over_fields-beside : (R : A → A → Type 0) → ((s t u : A) (a : ℕ) → R s t → step s a ≡ got u → GotBeside R u (step t a))
      → (k : ℕ) (bs : List ℕ) (a : ℕ) (s t u : A) → R s t → over_fields step k bs a s ≡ got u → GotBeside R u (over_fields step k bs a t)
  unfolding over_fields choose
  over_fields-beside R keeps zero bs a s t u r = got-beside R s t r
  over_fields-beside R keeps (suc k) bs a s t u r =
      choose-beside R (ltb a (length bs)) (λ _. after-beside R (step s a) (step t a) rest rest (λ x. keeps s t x a r)
      (λ x y. over_fields-beside R keeps k bs (field_end bs a) x y u)) (got-beside R s t r)
    where
      rest : A → Answer A
      rest = over_fields step k bs (field_end bs a)

-- the field at a, and what follows it
pub read_from-step : (bs : List ℕ) (a : ℕ) (f : JobFile) → a < length bs → read_from bs a f ≡ after (read_field bs f a) (read_from bs (field_end bs a))
read_from-step bs a f h =
    let p = over_fields-step (read_field bs) (length bs) bs a f h (omega arith) in
    p.2 ∙ ap (after (read_field bs f a)) (fun_ext (λ g. over_fields-bounds (read_field bs) p.0 (length bs) bs (field_end bs a) g p.1 (omega arith)))

-- what is read without a refusal is whole fields
read-fields : (bs : List ℕ) (k a : ℕ) → length bs - a ≤ k → a ≤ length bs → (f e : JobFile) → over_fields (read_field bs) k bs a f ≡ got e → FieldsFrom bs a
unfolding over_fields read_field
read-fields bs zero a l h f e = λ _. done a (omega arith)
read-fields bs (suc k) a l h f e =
    by-choice (λ (r : Answer JobFile). r ≡ got e → FieldsFrom bs a) (ltb a (length bs)) (λ _ q.
    let w = after-got (read_field bs f a) (over_fields (read_field bs) k bs (field_end bs a)) e q in
    let here = (ask-got (whole bs a) 3 _ w.0 w.1).0 in
    let ends = (whole_is bs a).0 here in
    more a here (read-fields bs k (field_end bs a) (omega (arith, l, ends, after-head bs a)) ends.1 w.0 e w.2))
    (λ n _. let end : a < length bs → ⊥ = λ i. n ((T-ltb a (length bs)).1 i) in done a (omega (arith, h, end)))

-- so a readable file is
pub readable-fields : (bs : List ℕ) (f : JobFile) → read_file bs ≡ got f → Fields bs
unfolding read_file
readable-fields bs f q =
    let w = after-got (read_from bs 0 no_fields) complete f (ask-got (leb (length bs) max_file) 2 _ f q).1 in
    read-fields bs (length bs) 0 (omega arith) (omega arith) no_fields w.0 w.1

-- it says what its fields say
pub fields_read : (bs : List ℕ) (f : JobFile) → read_file bs ≡ got f → read_from bs 0 no_fields ≡ got f
unfolding read_file complete
fields_read bs f q =
    let w = after-got (read_from bs 0 no_fields) complete f (ask-got (leb (length bs) max_file) 2 _ f q).1 in
    w.1 ∙ (ask-got _ 10 (got w.0) f w.2).1

-- what is read without a refusal is read through each offset at which a field starts
pub read_through : (bs : List ℕ) (e a : ℕ) → FieldsTo bs e a → (f g : JobFile) → read_from bs a f ≡ got g → (p : JobFile) × (read_from bs e p ≡ got g)
read_through bs e _ (done a same) f g q = (f, ap (λ (k : ℕ). read_from bs k f) (sym same) ∙ q)
read_through bs e _ (more a h rest) f g q =
    let w = after-got (read_field bs f a) (read_from bs (field_end bs a)) g (sym (read_from-step bs a f (omega (arith, (whole_is bs a).0 h))) ∙ q) in
    read_through bs e (field_end bs a) rest w.0 g w.2

-- whole fields lead to no offset before
fields-order : (bs : List ℕ) (e a : ℕ) → FieldsTo bs e a → a ≤ e
fields-order bs e _ (done a same) = omega arith
fields-order bs e _ (more a h rest) = omega (arith, fields-order bs e (field_end bs a) rest, after-head bs a)

-- ---- a file of two parts

module _ (xs zs : List ℕ) where
  -- a head within the first part says where its field ends, as in that part alone
  field_end-head : (a : ℕ) → a + 3 ≤ length xs → field_end (xs ++ zs) a ≡ field_end xs a
  unfolding field_end
  field_end-head a h = rw (get_or-append xs zs 0 (a + 1) (omega arith), get_or-append xs zs 0 (a + 2) (omega arith)) refl

  -- a whole field at offset a of the first part: its end, its value and its questions are as in that part alone
  module _ (a : ℕ) (h : T (whole xs a)) where
    field_end-front : field_end (xs ++ zs) a ≡ field_end xs a
    field_end-front = field_end-head a ((whole_is xs a).0 h).0

    whole-front : T (whole (xs ++ zs) a)
    whole-front =
        let w = (whole_is xs a).0 h in
        (whole_is (xs ++ zs) a).1 (omega (arith, length-append xs zs), omega (arith, length-append xs zs, field_end-front))

    pub value-front : value (xs ++ zs) a ≡ value xs a
    unfolding value part
    value-front =
        let w = (whole_is xs a).0 h in
        ap (λ (e : ℕ). take (e - (a + 3)) (drop (a + 3) (xs ++ zs))) field_end-front
        ∙ ap (take (field_end xs a - (a + 3))) (drop-append-le (a + 3) xs zs w.0)
        ∙ take-append-le (field_end xs a - (a + 3)) (drop (a + 3) xs) zs (simp length-drop (omega arith))

    pub read_field-front : (f : JobFile) → read_field (xs ++ zs) f a ≡ read_field xs f a
    unfolding read_field
    read_field-front f =
        let w = (whole_is xs a).0 h in
        ask-yes (whole (xs ++ zs) a) 3 _ whole-front ∙ rw (get_or-append xs zs 0 a (omega (arith, w)), value-front) (sym (ask-yes (whole xs a) 3 _ h))

  -- a field that is whole in both together, and ends within the first part, is whole there
  module _ (a : ℕ) (h : T (whole (xs ++ zs) a)) (ends : field_end (xs ++ zs) a ≤ length xs) where
    field_end-cut : field_end xs a ≡ field_end (xs ++ zs) a
    field_end-cut = sym (field_end-head a (omega (arith, after-head (xs ++ zs) a, ends)))

    whole-cut : T (whole xs a)
    whole-cut = (whole_is xs a).1 (omega (arith, after-head (xs ++ zs) a, ends), omega (arith, field_end-cut, ends))

  -- so are whole fields up to an offset within it
  pub fields-cut : (e a : ℕ) → FieldsTo (xs ++ zs) e a → e ≤ length xs → FieldsTo xs e a
  fields-cut e _ (done a same) l = done a same
  fields-cut e _ (more a h rest) l =
      let ends : field_end (xs ++ zs) a ≤ length xs = omega (arith, fields-order (xs ++ zs) e (field_end (xs ++ zs) a) rest, l) in
      more a (whole-cut a h ends) (rw (field_end-cut a h ends) (fields-cut e (field_end (xs ++ zs) a) rest l))

  -- a field at offset a of the second part: its end, its value and its questions are as in that part alone
  at-behind : (a i : ℕ) → at (xs ++ zs) (length xs + a + i) ≡ at zs (a + i)
  at-behind a i = ap (at (xs ++ zs)) (omega arith) ∙ get_or-append-add xs zs (a + i) 0

  pub field_end-behind : (a : ℕ) → field_end (xs ++ zs) (length xs + a) ≡ length xs + field_end zs a
  unfolding field_end
  field_end-behind a = rw (at-behind a 1, at-behind a 2) (omega arith)

  whole-behind : (a : ℕ) → whole (xs ++ zs) (length xs + a) ≡ whole zs a
  whole-behind a =
      let both = whole_is (xs ++ zs) (length xs + a) in
      let one = whole_is zs a in
      bool-ext (whole (xs ++ zs) (length xs + a)) (whole zs a)
      (λ h. one.1 (omega (arith, both.0 h, length-append xs zs), omega (arith, both.0 h, length-append xs zs, field_end-behind a)))
      (λ h. both.1 (omega (arith, one.0 h, length-append xs zs), omega (arith, one.0 h, length-append xs zs, field_end-behind a)))

  value-behind : (a : ℕ) → value (xs ++ zs) (length xs + a) ≡ value zs a
  unfolding value part
  value-behind a =
      let size : field_end (xs ++ zs) (length xs + a) - (length xs + a + 3) ≡ field_end zs a - (a + 3) = omega (arith, field_end-behind a) in
      let start : length xs + a + 3 ≡ length xs + (a + 3) = omega arith in
      rw (size, start, drop-append-add xs zs (a + 3)) refl

  pub read_field-behind : (f : JobFile) (a : ℕ) → read_field (xs ++ zs) f (length xs + a) ≡ read_field zs f a
  unfolding read_field
  read_field-behind f a = rw (whole-behind a, get_or-append-add xs zs a 0, value-behind a) refl

  -- it is the end in both, or in neither
  inside-behind : (a : ℕ) → ltb (length xs + a) (length (xs ++ zs)) ≡ ltb a (length zs)
  inside-behind a =
      let both = T-ltb (length xs + a) (length (xs ++ zs)) in
      let one = T-ltb a (length zs) in
      bool-ext (ltb (length xs + a) (length (xs ++ zs))) (ltb a (length zs))
      (λ h. one.1 (omega (arith, both.0 h, length-append xs zs))) (λ h. both.1 (omega (arith, one.0 h, length-append xs zs)))

  -- all fields from offset a of the second part on, with the same bound
  over_fields-behind : (k a : ℕ) (f : JobFile) → over_fields (read_field (xs ++ zs)) k (xs ++ zs) (length xs + a) f ≡ over_fields (read_field zs) k zs a f
  unfolding over_fields
  over_fields-behind zero a f = refl
  over_fields-behind (suc k) a f =
      rw (inside-behind a, read_field-behind f a, field_end-behind a)
      (ap (λ (r : JobFile → Answer JobFile). choose (ltb a (length zs)) (after (read_field zs f a) r) (got f)) (fun_ext (over_fields-behind k (field_end zs a))))

  -- all fields of the second part from offset a on are read as in that part alone
  pub read_from-behind : (a : ℕ) (f : JobFile) → read_from (xs ++ zs) (length xs + a) f ≡ read_from zs a f
  read_from-behind a f =
      over_fields-behind (length (xs ++ zs)) a f
      ∙ over_fields-bounds (read_field zs) (length (xs ++ zs)) (length zs) zs a f (omega (arith, length-append xs zs)) (omega arith)

  -- the fields of the first part from offset a on, and then those behind that part
  pub read_from-front : (a : ℕ) → FieldsFrom xs a → (f : JobFile) → read_from (xs ++ zs) a f ≡ after (read_from xs a f) (read_from (xs ++ zs) (length xs))
  unfolding after
  read_from-front _ (done a e) f = rw (over_fields-end (read_field xs) (length xs) xs a f (omega arith)) (ap (λ (n : ℕ). read_from (xs ++ zs) n f) e)
  read_from-front _ (more a h rest) f =
      let w = (whole_is xs a).0 h in
      let onward = fun_ext (λ g. ap (λ (n : ℕ). read_from (xs ++ zs) n g) (field_end-front a h) ∙ read_from-front (field_end xs a) rest g) in
      read_from-step (xs ++ zs) a f (omega (arith, length-append xs zs))
      ∙ ap (λ (r : Answer JobFile). after r (read_from (xs ++ zs) (field_end (xs ++ zs) a))) (read_field-front a h f)
      ∙ ap (after (read_field xs f a)) onward
      ∙ sym (after-assoc (read_field xs f a) (read_from xs (field_end xs a)) (read_from (xs ++ zs) (length xs)))
      ∙ ap (λ (r : Answer JobFile). after r (read_from (xs ++ zs) (length xs))) (sym (read_from-step xs a f (omega arith)))

  module _ (fields : Fields xs) where
    -- the fields of the first part, and then those of the second
    pub read_from-parts : (f : JobFile) → read_from (xs ++ zs) 0 f ≡ after (read_from xs 0 f) (read_from zs 0)
    read_from-parts f =
        read_from-front 0 fields f
        ∙ ap (after (read_from xs 0 f)) (fun_ext (λ g. ap (λ (n : ℕ). read_from (xs ++ zs) n g) (omega arith) ∙ read_from-behind 0 g))

    -- a file of two parts that is not too long
    pub read_file-parts : length (xs ++ zs) ≤ max_file → read_file (xs ++ zs) ≡ after (read_from xs 0 no_fields) (λ f. after (read_from zs 0 f) complete)
    unfolding read_file
    read_file-parts h =
        ask-yes (leb (length (xs ++ zs)) max_file) 2 _ ((T-leb (length (xs ++ zs)) max_file).1 h)
        ∙ ap (λ (r : Answer JobFile). after r complete) (read_from-parts no_fields) ∙ after-assoc (read_from xs 0 no_fields) (read_from zs 0) complete

-- ---- a field in front

-- the questions of a whole field, from the fourth on, and what it adds
abbrev pub ask_field : JobFile → ℕ → List ℕ → Answer JobFile
ask_field f tag v = ask (known_tag tag) 4 (ask (in_place f.fields tag) 5 (ask (length_ok tag (length v) && content_ok tag v) 6 (add_field f tag v)))

-- two readings ask them: where question 5 and what the field adds keep the second beside the first, all do
pub ask_field-beside : (R : JobFile → JobFile → Type 0) {u : JobFile} (s t : JobFile) (tag : ℕ) (v : List ℕ)
    → (T (in_place s.fields tag) → T (in_place t.fields tag)) → (add_field s tag v ≡ got u → GotBeside R u (add_field t tag v))
    → ask_field s tag v ≡ got u → GotBeside R u (ask_field t tag v)
ask_field-beside R s t tag v place add = ask-beside R _ _ 4 (λ h. h) (ask-beside R _ _ 5 place (ask-beside R _ _ 6 (λ h. h) add))

-- a need that is not refused: it stands behind header and limit, is as long as its tag says, its jobs are there and differ, and it is added
pub record NeedAsked (f e : JobFile) (tag : ℕ) (v : List ℕ) : Type 0 where
  pub late : 2 ≤ f.fields
  pub long : T (length_ok tag (length v))
  pub both-jobs : T (is_job (length f.jobs) (giver_of tag v) && (is_job (length f.jobs) (taker_of tag v) && not (eqb (giver_of tag v) (taker_of tag v))))
  pub reads : with_need f (need_of tag v) ≡ e

pub need-asked : (f e : JobFile) (tag : ℕ) (v : List ℕ) → T (is_need tag) → ask_field f tag v ≡ got e → NeedAsked f e tag v
unfolding add_need
need-asked f e tag v need q =
    let q5 = ask-got (in_place f.fields tag) 5 _ e (ask-got (known_tag tag) 4 _ e q).1 in
    let q6 = ask-got (length_ok tag (length v) && content_ok tag v) 6 _ e q5.1 in
    let q8 = ask-got _ 8 (got (with_need f (need_of tag v))) e (sym (add-need f tag v need) ∙ q6.1) in
    record {
      late = place-late f.fields tag q5.0 (need-late tag need);
      long = ((T_and (length_ok tag (length v)) (content_ok tag v)).0 q6.0).0;
      both-jobs = q8.0;
      reads = got_same (with_need f (need_of tag v)) e q8.1;
    }

-- of a field in front these are asked, and then the fields behind it are read
pub read_from-field : (tag : ℕ) (v zs : List ℕ) → length v < 65536 → (f : JobFile) → read_from (field tag v ++ zs) 0 f ≡ after (ask_field f tag v) (read_from zs 0)
unfolding read_field
read_from-field tag v zs h f =
    let bs = field tag v ++ zs in
    let w = field-at [] tag v zs h in
    read_from-step bs 0 f (omega (arith, (whole_is bs 0).0 w.is_whole))
    ∙ ap (λ (r : Answer JobFile). after r (read_from bs (field_end bs 0))) (ask-yes (whole bs 0) 3 _ w.is_whole ∙ rw (w.tag_is, w.value-is) refl)
    ∙ ap (after _) (fun_ext (λ g. ap (λ (n : ℕ). read_from bs n g) ends ∙ read_from-behind (field tag v) zs 0 g))
  where
    ends : field_end (field tag v ++ zs) 0 ≡ length (field tag v) + 0
    ends = unfold field in omega (arith, (field-at [] tag v zs h).end_is)
