-- Bytes that are read past the end.
use Rattle.std.proofs.Common.{◌≡◌, ℕ, ◌+◌, ◌<◌, ◌≤◌, List, [], ◌∷◌, ◌++◌, length, take, Option, sym, ◌∙◌, ap, subst, arith, append-nil, append_assoc, length-append}
use Rattle.std.specs.List.{slice_range}
use Rattle.std.proofs.lemmas.List.{length-take-le}
use Rattle.nor_base.specs.Device.{Ahead}
use Rattle.nor_base.specs.Wire.{wire}
use Rattle.nor_reader.specs.declared.difference.Mismatch.{Mismatch}
use Rattle.nor_loop.specs.Log.{HasLogged}
use Rattle.nor_loop.specs.Reads.{chunk}
use Rattle.nor_reader.specs.declared.by.ReadBy.{ReadBy}
use Rattle.nor_reader.specs.Again.{MissesPiece}
use Rattle.nor_reader.specs.Past.{past_end, MissesPast}
use Rattle.nor_reader.specs.Reads.{read_op, reads, HasReadOn, Reads}
use Rattle.nor_reader.proofs.AgainLemmas.{slice_long, take_on, misses_within}
use Rattle.nor_reader.proofs.PassLemmas.{nothing_read, read_both, one_piece}

-- no more than the chip has
pub past_few : (by : ReadBy) (size : ℕ) → past_end by size ≤ size
past_few by size = omega arith

-- none was read yet
pub none_past : (r : Reads) (h : Option (List ℕ)) (a : Ahead) (content : List ℕ) → HasReadOn r (wire h a) (wire h a) content (content ++ take 0 content)
none_past r h a content = subst (λ (l : List ℕ). HasReadOn r (wire h a) (wire h a) content l) (sym (append-nil content)) (nothing_read r h a content)

-- one piece more
pub past_more : (r : Reads) (h i j : Option (List ℕ)) (a b c : Ahead) (content : List ℕ) (done len : ℕ) → done + len ≤ length content
    → 0 < len → len ≤ r.most → HasReadOn r (wire h a) (wire i b) content (content ++ take done content)
    → HasLogged (wire i b) (wire j c) (read_op r.by (length content + done) (slice_range content done (done + len)) ∷ [])
    → HasReadOn r (wire h a) (wire j c) content (content ++ take (done + len) content)
past_more r h i j a b c content done len within some few read more =
    let piece = slice_range content done (done + len) in
    let long : length piece ≡ len = slice_long content done len within in
    let first : length (take done content) ≡ done = length-take-le done content (omega (arith, within)) in
    let mid = content ++ take done content in
    let at : length content + done ≡ length mid = omega (arith, length-append content (take done content), first) in
    let joined : mid ++ piece ≡ content ++ take (done + len) content =
    append_assoc content (take done content) piece ∙ ap (λ (l : List ℕ). content ++ l) (sym (take_on content done len)) in
    subst (λ (l : List ℕ). HasReadOn r (wire h a) (wire j c) content l) joined
    (read_both r h i j a b c content mid (mid ++ piece) read
    (one_piece r i j b c mid piece (omega (arith, long, some)) (omega (arith, long, few))
    (subst (λ n. HasLogged (wire i b) (wire j c) (read_op r.by n piece ∷ [])) at more)))

-- or its read ended so
pub past_not : (r : Reads) (h i j : Option (List ℕ)) (a b c : Ahead) (content : List ℕ) (done len : ℕ) (why : Mismatch)
    → done + len ≤ length content → done + len ≤ past_end r.by (length content) → 0 < len → len ≤ r.most
    → HasReadOn r (wire h a) (wire i b) content (content ++ take done content)
    → MissesPiece (reads (length (slice_range content done (done + len))) r.by) (wire i b) (wire j c) (chunk (length content + done) (slice_range content done (done + len))) why
    → MissesPast r (wire h a) (wire j c) content why
past_not r h i j a b c content done len why within before some few read stop =
    let piece = slice_range content done (done + len) in
    let long : length piece ≡ len = slice_long content done len within in
    record {
      at = done;
      len = len;
      some = some;
      within = before;
      held = i;
      ahead = b;
      alike = read;
      stop = misses_within r (length piece) i j b c (chunk (length content + done) piece) why (omega (arith, long, few)) stop;
    }

-- all was read
pub past_all : (r : Reads) (h i : Option (List ℕ)) (a b : Ahead) (content : List ℕ) (done : ℕ) → done ≡ past_end r.by (length content)
    → HasReadOn r (wire h a) (wire i b) content (content ++ take done content) → HasReadOn r (wire h a) (wire i b) content (content ++ take (past_end r.by (length content)) content)
past_all r h i a b content done is read = subst (λ n. HasReadOn r (wire h a) (wire i b) content (content ++ take n content)) is read
