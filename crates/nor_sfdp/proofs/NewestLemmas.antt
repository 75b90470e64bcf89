-- The header taken, one header at a time.
use Rattle.std.proofs.Common.{◌≡◌, ℕ, ◌+◌, ◌<◌, ◌≤◌, Bool, true, false, cond, List, [], ◌∷◌, ◌++◌, Option, Some, None, max, filter, refl, sym, ap, ◌∙◌, arith, inl, inr, ◌==◌}
use Rattle.std.specs.Option.{option_or}
use Rattle.std.specs.List.{find}
use Rattle.std.proofs.lemmas.Bool.{cases_lt, eqb-true, eq-eqb, lt-ltb, le-ltb}
use Rattle.std.proofs.lemmas.List.{append-nil}
use Rattle.std.proofs.lemmas.List.Folds.{find-append}
use Rattle.std.proofs.lemmas.List.FromFn.{filter_of_map_range_with_len_more}
use Rattle.nor_sfdp.specs.declared.header.Header.{Header}
use Rattle.nor_sfdp.specs.Headers.{greatest_minor, first_newest, newest, newer, headers_of, header_at, is_header_of}

greatest-snoc : (hs : List Header) (x : Header) → greatest_minor (hs ++ x ∷ []) ≡ max (greatest_minor hs) x.minor
greatest-snoc [] x = omega arith
greatest-snoc (h ∷ hs) x = let e = greatest-snoc hs x in omega (arith, e)

-- no header has a minor revision above the greatest
none_above : (hs : List Header) (m : ℕ) → greatest_minor hs < m → find (λ (h : Header). h.minor == m) hs ≡ None
none_above [] m lt = refl
none_above (h ∷ hs) m lt =
    let other : (h.minor == m) ≡ false = grind arith in
    rw other (none_above hs m (omega arith))

-- a header has the minor revision
abbrev HasMinor : List Header → ℕ → Type 0
HasMinor hs m = (b : Header) × (find (λ (header : Header). header.minor == m) hs ≡ Some b) × (b.minor ≡ m)

first_or_rest : (h : Header) (hs : List Header) (m : ℕ) → greatest_minor (h ∷ hs) ≡ m → (test : Bool) → (h.minor == m) ≡ test
    → (greatest_minor hs ≡ m → HasMinor hs m) → HasMinor (h ∷ hs) m
first_or_rest h hs m e true is rest = (h, rw is refl, eqb-true _ _ is)
first_or_rest h hs m e false is rest =
    let r = rest (grind arith) in
    (r.0, rw is r.1, r.2)

-- some header has the greatest
attained : (h : Header) (hs : List Header) (m : ℕ) → greatest_minor (h ∷ hs) ≡ m → HasMinor (h ∷ hs) m
attained h [] m e = (h, rw (eq-eqb h.minor m (omega arith)) refl, omega arith)
attained h (next ∷ hs) m e = first_or_rest h (next ∷ hs) m e (h.minor == m) refl (attained next hs m)

-- the header searched for among one more
found-snoc : (hs : List Header) (x : Header) (m : ℕ) (o : Option Header) → greatest_minor (hs ++ x ∷ []) ≡ m → find (λ (header : Header). header.minor == m) hs ≡ o
    → first_newest (hs ++ x ∷ []) ≡ option_or o (cond (x.minor == m) (Some x) None)
found-snoc hs x m o top found =
    ap (λ (g : ℕ). find (λ (header : Header). header.minor == g) (hs ++ x ∷ [])) top
    ∙ find-append (λ (header : Header). header.minor == m) hs (x ∷ [])
    ∙ ap (λ (first : Option Header). option_or first (cond (x.minor == m) (Some x) None)) found

later : (hs : List Header) (x b : Header) → first_newest hs ≡ Some b → b.minor < x.minor → greatest_minor hs < x.minor
    → first_newest (hs ++ x ∷ []) ≡ Some (newer (first_newest hs) x)
later hs x b found lt above =
    let top : greatest_minor (hs ++ x ∷ []) ≡ x.minor = let e = greatest-snoc hs x in omega (arith, e) in
    let new : newer (Some b) x ≡ x = rw (lt-ltb b.minor x.minor lt) refl in
    let one : cond (x.minor == x.minor) (Some x) None ≡ Some x = rw (eq-eqb x.minor x.minor refl) refl in
    found-snoc hs x x.minor None top (none_above hs x.minor above) ∙ one ∙ sym (ap (λ (o : Option Header). Some (newer o x)) found ∙ ap Some new)

earlier : (hs : List Header) (x b : Header) → first_newest hs ≡ Some b → x.minor ≤ b.minor → x.minor ≤ greatest_minor hs
    → first_newest (hs ++ x ∷ []) ≡ Some (newer (first_newest hs) x)
earlier hs x b found le below =
    let top : greatest_minor (hs ++ x ∷ []) ≡ greatest_minor hs = let e = greatest-snoc hs x in omega (arith, e) in
    let old : newer (Some b) x ≡ b = rw (le-ltb b.minor x.minor le) refl in
    found-snoc hs x (greatest_minor hs) (Some b) top found ∙ sym (ap (λ (o : Option Header). Some (newer o x)) found ∙ ap Some old)

pub newest-snoc : (hs : List Header) (x : Header) → first_newest (hs ++ x ∷ []) ≡ Some (newer (first_newest hs) x)
newest-snoc [] x = rw (eq-eqb x.minor (max x.minor 0) (omega arith)) refl
newest-snoc (h ∷ hs) x =
    let b = attained h hs (greatest_minor (h ∷ hs)) refl in
    elim (cases_lt (greatest_minor (h ∷ hs)) x.minor) [
      | inl lt ↦ later (h ∷ hs) x b.0 b.1 (omega (arith, b.2)) lt
      | inr le ↦ earlier (h ∷ hs) x b.0 b.1 (omega (arith, b.2)) le
    ]

-- one header more, which counts
pub newest-taken : (bytes : List ℕ) (id i : ℕ) (header : Header) (taken : Option Header) → header ≡ header_at bytes i → true ≡ is_header_of id header
    → taken ≡ newest id (headers_of bytes i) → Some (newer taken header) ≡ newest id (headers_of bytes (i + 1))
newest-taken bytes id i header taken read counts is =
    let more : filter (is_header_of id) (headers_of bytes (i + 1)) ≡ filter (is_header_of id) (headers_of bytes i) ++ cond (is_header_of id (header_at bytes i)) (header_at bytes i ∷ []) [] =
    filter_of_map_range_with_len_more (is_header_of id) (header_at bytes) 0 i i (omega arith) in
    let counted : is_header_of id (header_at bytes i) ≡ true = ap (is_header_of id) (sym read) ∙ sym counts in
    let longer : filter (is_header_of id) (headers_of bytes (i + 1)) ≡ filter (is_header_of id) (headers_of bytes i) ++ header_at bytes i ∷ [] =
    more ∙ ap (λ (b : Bool). filter (is_header_of id) (headers_of bytes i) ++ cond b (header_at bytes i ∷ []) []) counted in
    ap (λ (o : Option Header). Some (newer o header)) is ∙ ap (λ (h : Header). Some (newer (newest id (headers_of bytes i)) h)) read
    ∙ sym (ap first_newest longer ∙ newest-snoc (filter (is_header_of id) (headers_of bytes i)) (header_at bytes i))

-- one header more, which doesn't count
pub newest-passed : (bytes : List ℕ) (id i : ℕ) (header : Header) (taken : Option Header) → header ≡ header_at bytes i → false ≡ is_header_of id header
    → taken ≡ newest id (headers_of bytes i) → taken ≡ newest id (headers_of bytes (i + 1))
newest-passed bytes id i header taken read other is =
    let more : filter (is_header_of id) (headers_of bytes (i + 1)) ≡ filter (is_header_of id) (headers_of bytes i) ++ cond (is_header_of id (header_at bytes i)) (header_at bytes i ∷ []) [] =
    filter_of_map_range_with_len_more (is_header_of id) (header_at bytes) 0 i i (omega arith) in
    let passed : is_header_of id (header_at bytes i) ≡ false = ap (is_header_of id) (sym read) ∙ sym other in
    let same : filter (is_header_of id) (headers_of bytes (i + 1)) ≡ filter (is_header_of id) (headers_of bytes i) =
    more ∙ ap (λ (b : Bool). filter (is_header_of id) (headers_of bytes i) ++ cond b (header_at bytes i ∷ []) []) passed ∙ append-nil (filter (is_header_of id) (headers_of bytes i)) in
    is ∙ sym (ap first_newest same)
