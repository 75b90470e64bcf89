-- What was compared by marked cells was what was to be compared.
use Rattle.std.proofs.Common.{◌≡◌, Bool, true, false, ℕ, ◌*◌, ◌/◌, ◌<◌, inl, inr, List, length, Result, Ok, Err, subst, arith}
use Rattle.std.specs.Prelude.{◌↔◌, ◌⊎◌}
use Rattle.nor_base.specs.Wire.{Wire}
use Rattle.nor_cells.specs.Cells.{IsInCellOf}
use Rattle.nor_cells.specs.Marks.{AreMarks, IsMarked, IsMarkedCell, MarkedBy}
use Rattle.nor_reader.specs.declared.difference.Mismatch.{Mismatch}
use Rattle.nor_serprog.specs.declared.limits.Limits.{Limits}
use Rattle.norprog_player.specs.declared.access.Access.{Access}
use Rattle.norprog_player.specs.declared.ending.Unlike.{Unlike as Unlikeness}
use Rattle.norprog_player.specs.declared.ending.Unlike.TheVariants as unlike
use Rattle.norprog_player.specs.Asked.{BeginsWith, Inquiry, IsUnknown}
use Rattle.norprog_player.specs.Compared.{comparison, StopsComparing}
use Rattle.norprog_player.specs.Likeness.{Compares, ComparesPast, ComparesWhole}
use Rattle.norprog_player.proofs.ComparedLemmas.{wanted_alike}

-- the marked addresses of a content of so many cells
pub marked_alike : (P : ℕ → Type 0) (count size : ℕ) (marks : List Bool) → AreMarks P count marks → size ≡ 256 * length marks → (k : ℕ) → k < size → (IsMarked marks k ↔ IsInCellOf P k)
marked_alike P count size marks are cells k inside = are.each k (omega (arith, inside, cells, are.as_many))

-- and with those that were marked later
pub marked_since : (P Q : ℕ → Type 0) (count size : ℕ) (old new : List Bool) → AreMarks P count old → MarkedBy Q old new → size ≡ 256 * length old → (k : ℕ) → k < size
    → (IsMarked new k ↔ (IsInCellOf P k ⊎ IsInCellOf Q k))
marked_since P Q count size old new are marked cells k inside =
    let before = marked_alike P count size old are cells k inside in (
      (λ is. elim (marked.only k is) [ inl was ↦ inl (before.0 was) | inr near ↦ inr near ]),
      (λ is. elim is [
        | inl was ↦ marked.kept k (before.1 was)
        | inr near ↦
            let there : near.0 / 256 < length old = omega (arith, near.1, inside, cells) in
            subst (λ (c : ℕ). IsMarkedCell new c) near.1 (marked.more near.0 there near.2)
      ]),
    )

-- where the same addresses were to be compared
module _ (limits : Limits) (access : Access) (content : List ℕ) (V W : ℕ → Type 0) (alike : (k : ℕ) → k < length content → (V k ↔ W k)) where
  stopped_alike : (u v : Wire) (why : Mismatch) → StopsComparing u v (comparison limits access content V) why
      → StopsComparing u v (comparison limits access content W) why
  stopped_alike u v why stop = record {
    last = stop.last;
    some = stop.some;
    few = stop.few;
    within = stop.within;
    sided = stop.sided;
    wanted = λ k h. (alike k (omega (arith, h.1, stop.within))).0 (stop.wanted k h);
    between = stop.between;
    compared = wanted_alike u stop.between limits access content V W stop.last.start (λ k below. alike k (omega (arith, below, stop.within)))
        stop.compared;
    stop = stop.stop;
  }

  past_alike : (u v : Wire) (r : Result (Unit {0}) Mismatch) → ComparesPast u v (comparison limits access content V) r
      → ComparesPast u v (comparison limits access content W) r
  past_alike u v r came = record {
    between = came.between;
    compared = wanted_alike u came.between limits access content V W (length content) alike came.compared;
    past = came.past;
  }

  pub whole_alike : (u v : Wire) (r : Result (Unit {0}) Mismatch) → ComparesWhole u v (comparison limits access content V) r
      → ComparesWhole u v (comparison limits access content W) r
  whole_alike u v (Ok tt) came = past_alike u v (Ok tt) came
  whole_alike u v (Err why) (inl stop) = inl (stopped_alike u v why stop)
  whole_alike u v (Err why) (inr late) = inr (past_alike u v (Err why) late)

  pub compares_alike : (trusted : Bool) (u v : Wire) → Compares (comparison limits access content V) trusted u v
      → Compares (comparison limits access content W) trusted u v
  compares_alike true u v same = same
  compares_alike false u v compared = whole_alike u v (Ok tt) compared

  pub begins_alike : (trusted : Bool) (q : Inquiry) (u v : Wire) → BeginsWith trusted q (comparison limits access content V) u v
      → BeginsWith trusted q (comparison limits access content W) u v
  begins_alike true q u v same = same
  begins_alike false q u v known =
      record { between = known.between; identified = known.identified; like = whole_alike known.between v (Ok tt) known.like }

  pub unknown_alike : (why : Unlikeness) (q : Inquiry) (u v : Wire) → IsUnknown q (comparison limits access content V) u v why
      → IsUnknown q (comparison limits access content W) u v why
  unknown_alike unlike.Busy q u v is = is
  unknown_alike (unlike.Asking why) q u v is = is
  unknown_alike (unlike.Status status) q u v is = is
  unknown_alike (unlike.Registers status) q u v is = is
  unknown_alike (unlike.Tables why) q u v is = is
  unknown_alike (unlike.Moved value) q u v is = is
  unknown_alike (unlike.Content why) q u v is = (is.0, is.1, whole_alike is.0 v (Err why) is.2)
