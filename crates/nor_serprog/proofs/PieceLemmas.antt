-- A piece of some bytes, copied and put.
use Rattle.std.proofs.Common.{◌≡◌, ℕ, ◌+◌, ◌-◌, ◌<◌, ◌≤◌, List, [], ◌∷◌, ◌++◌, length, get_or, set, take, drop, Option, sym, ◌∙◌, ap, subst, arith, length-append, length-drop, length-take}
use Rattle.std.specs.List.{slice_range}
use Rattle.std.specs.Io.KnownBytes.{Appends}
use Rattle.std.proofs.Math.Seq.{take-add}
use Rattle.std.proofs.lemmas.List.{get_or-drop, take_more, take_more_set, take_all}
use Rattle.nor_base.specs.Device.{Cuts}
use Rattle.nor_base.proofs.DeviceLaws.{Appends-append}
use Rattle.nor_base.proofs.ListLaws.{shorter_front}

pub copied_more : (bytes part : List ℕ) (from i v : ℕ) → i < length part → from + length part ≤ length bytes → v ≡ get_or bytes (from + i) 0
    → take i part ≡ take i (drop from bytes) → take (i + 1) (set part i v) ≡ take (i + 1) (drop from bytes)
copied_more bytes part from i v within fits is same =
    let far : i < length (drop from bytes) = omega (arith, length-drop from bytes) in
    take_more_set part i v within ∙ ap (λ xs. xs ++ v ∷ []) same
    ∙ ap (λ byte. take i (drop from bytes) ++ byte ∷ []) (is ∙ sym (get_or-drop from bytes i 0)) ∙ sym (take_more (drop from bytes) i 0 far)

pub copied_all : (bytes part : List ℕ) (from i n : ℕ) → i ≡ n → length part ≡ n → take i part ≡ take i (drop from bytes) → part ≡ slice_range bytes from (from + n)
copied_all bytes part from i n all long same =
    let count : from + n - from ≡ i = omega arith in
    sym (take_all i part (omega arith)) ∙ same ∙ ap (λ m. take m (drop from bytes)) (sym count)

-- one more piece was put, or a part of it
pub put_more : (before between after : Option (List ℕ)) (bytes part : List ℕ) (done room : ℕ) → part ≡ slice_range bytes done (done + room)
    → Appends before between (take done bytes) → Appends between after part → Appends before after (take (done + room) bytes)
put_more before between after bytes part done room is p q =
    let long : done + room - done ≡ room = omega arith in
    let piece : part ≡ take room (drop done bytes) = is ∙ ap (λ n. take n (drop done bytes)) long in
    subst (Appends before after) (sym (take-add done room bytes)) (Appends-append before between after (take done bytes) (take room (drop done bytes)) p (subst (Appends between after) piece q))

pub put_cut : (before between after : Option (List ℕ)) (bytes part : List ℕ) (done room : ℕ) → done + room ≤ length bytes → part ≡ slice_range bytes done (done + room)
    → Appends before between (take done bytes) → Cuts between after part → Cuts before after bytes
put_cut before between after bytes part done room within is p q =
    let long : done + room - done ≡ room = omega arith in
    let piece : part ≡ take room (drop done bytes) = is ∙ ap (λ n. take n (drop done bytes)) long in
    let few : q.0 < length (take room (drop done bytes)) = subst (λ xs. q.0 < length xs) piece q.1 in
    let front : take q.0 part ≡ take q.0 (drop done bytes) = ap (take q.0) piece ∙ shorter_front (drop done bytes) q.0 room (omega (arith, few)) in
    let rest : Appends between after (take q.0 (drop done bytes)) = subst (Appends between after) front q.2 in (
      done + q.0,
      omega (arith, few, length-take room (drop done bytes)),
      subst (Appends before after) (sym (take-add done q.0 bytes))
          (Appends-append before between after (take done bytes) (take q.0 (drop done bytes)) p rest),
    )

pub piece_room : (piece part : List ℕ) (room : ℕ) → length part ≡ room → room ≤ 256 → length piece ≡ 256 → length (part ++ drop room piece) ≡ 256
piece_room piece part room long few whole = omega (arith, length-append part (drop room piece), length-drop room piece)
