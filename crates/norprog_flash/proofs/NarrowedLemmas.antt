-- The narrowed task has the same target.
use Rattle.std.proofs.Common.{◌≡◌, ◌⊎◌, inl, inr, ℕ, suc, ◌+◌, ◌-◌, ◌<◌, ◌≤◌, ◌^◌, Bool, List, [], ◌∷◌, length, drop, slice_index, slice_range, Option, Some, None, refl, sym, ap, subst, ◌∙◌, arith}
use Rattle.std.specs.List.{enumerate_from}
use Rattle.std.proofs.lemmas.Bool.{cases_lt}
use Rattle.std.proofs.lemmas.List.{get_or-drop, get_or-take, length-drop, length-map, length-take, length-take-le}
use Rattle.std.proofs.lemmas.List.FromFn.{length-enumerate_from}
use Rattle.std.proofs.lemmas.Option.{slice_get-get_or, slice_get_within}
use Rattle.nor_base.specs.Target.{target}
use Rattle.nor_hex.specs.Image.{Pairs, byte_at}
use Rattle.nor_laws.specs.Laws.{TargetGives, TargetKeeps}
use Rattle.nor_layout.specs.Chosen.{is_chosen}
use Rattle.nor_layout.specs.Region.{Region}
use Rattle.norprog_flash.specs.Narrowed.{SpansDifference}

-- lists that are alike at each place
same_each : (xs ys : List ℕ) → length xs ≡ length ys → ((a : ℕ) → a < length xs → slice_index xs a ≡ slice_index ys a) → xs ≡ ys
same_each [] [] long alike = refl
same_each [] (y ∷ ys) long alike = absurd (omega (arith, long))
same_each (x ∷ xs) [] long alike = absurd (omega (arith, long))
same_each (x ∷ xs) (y ∷ ys) long alike =
    let first : x ≡ y = alike 0 (omega arith) in
    let rest = same_each xs ys (omega (arith, long)) (λ a below. alike (suc a) (omega (arith, below))) in
    ap (λ z. z ∷ xs) first ∙ ap (λ zs. y ∷ zs) rest

length-target : (image : ℕ → Option ℕ) (base : ℕ) (chosen : ℕ → Bool) (content : List ℕ) → length (target image base chosen content) ≡ length content
unfolding target
length-target image base chosen content = length-map (enumerate_from 0 content) _ ∙ length-enumerate_from 0 content

module _ (keeps : TargetKeeps) (gives : TargetGives) (have want : List ℕ) (image : Pairs) (spans : SpansDifference have want image)
    (long : length have ≡ length want) (few : length want < 2 ^ 32) where
  inside : (a : ℕ) → spans.low ≤ a → a < spans.high → byte_at image a ≡ Some (slice_index want a)
  inside a past below =
      let within = spans.within in
      let size : length (slice_range want spans.low spans.high) ≡ spans.high - spans.low =
      length-take-le (spans.high - spans.low) (drop spans.low want) (rw (length-drop spans.low want) (omega (arith, past, below, within))) in
      let here = slice_get-get_or (slice_range want spans.low spans.high) (a - spans.low) 0 (omega (arith, size, past, below)) in
      let value : slice_index (slice_range want spans.low spans.high) (a - spans.low) ≡ slice_index want a =
      get_or-take (spans.high - spans.low) (drop spans.low want) (a - spans.low) 0 (omega (arith, past, below))
      ∙ (get_or-drop spans.low want (a - spans.low) 0 ∙ ap (slice_index want) (omega (arith, past))) in
      spans.just.laid a (slice_index want a) (record { index = a - spans.low; byte_is = here ∙ ap (λ x. Some x) value; at_is = omega (arith, past) })

  outside : (a : ℕ) → (a < spans.low) ⊎ (spans.high ≤ a) → byte_at image a ≡ None
  outside a out = by (byte_at image a) refl
    where
      no : (b : ℕ) → byte_at image a ≡ Some b → ⊥
      no b gives_b =
          let lays = spans.just.given a b gives_b in
          let place = lays.at_is in
          let below = slice_get_within (slice_range want spans.low spans.high) lays.index b lays.byte_is in
          let order = spans.order in
          let short : length (slice_range want spans.low spans.high) ≤ spans.high - spans.low =
          subst (λ n. n ≤ spans.high - spans.low) (sym (length-take (spans.high - spans.low) (drop spans.low want))) (omega arith) in
          elim out [ inl early ↦ omega (arith, early, place) | inr late ↦ omega (arith, late, below, short, place, order) ]

      by : (o : Option ℕ) → byte_at image a ≡ o → byte_at image a ≡ None
      by None e = e
      by (Some b) e = absurd (no b e)

  each_is : (regions : List Region) (a : ℕ) → a < length have → slice_index (target (byte_at image) 0 (is_chosen regions []) have) a ≡ slice_index want a
  each_is regions a below = by (cases_lt a spans.low) (cases_lt a spans.high)
    where
      zero_more : 0 + a ≡ a
      zero_more = omega arith

      kept : (a < spans.low) ⊎ (spans.high ≤ a) → slice_index have a ≡ slice_index want a
          → slice_index (target (byte_at image) 0 (is_chosen regions []) have) a ≡ slice_index want a
      kept out same =
          keeps (byte_at image) 0 (is_chosen regions []) have a (inr (inl (ap (byte_at image) zero_more ∙ outside a out))) ∙ same

      by : (a < spans.low) ⊎ (spans.low ≤ a) → (a < spans.high) ⊎ (spans.high ≤ a)
          → slice_index (target (byte_at image) 0 (is_chosen regions []) have) a ≡ slice_index want a
      by (inl early) other = kept (inl early) (spans.before a early)
      by (inr past) (inr late) = kept (inr late) (spans.after a late)
      by (inr past) (inl inner) =
          gives (byte_at image) 0 (is_chosen regions []) have a (slice_index want a) below refl (omega (arith, below, long, few))
          (ap (byte_at image) zero_more ∙ inside a past inner)

  pub target_is_wanted : (regions : List Region) → target (byte_at image) 0 (is_chosen regions []) have ≡ want
  target_is_wanted regions =
      let size = length-target (byte_at image) 0 (is_chosen regions []) have in
      same_each _ want (size ∙ long) (λ a below. each_is regions a (subst (λ n. a < n) size below))
