-- Ranges read one after the other.
use Rattle.std.proofs.Common.{◌≡◌, Bool, ℕ, ◌+◌, ◌<◌, ◌≤◌, ◌⊎◌, inl, inr, List, [], ◌∷◌, ◌++◌, length, Option, Some, None, Ok, Err, sym, ◌∙◌, ap, subst, arith, append-nil}
use Rattle.std.specs.Prelude.{flat_map, ◌↔◌}
use Rattle.std.proofs.lemmas.Bool.{cases_lt}
use Rattle.std.proofs.lemmas.Grind.{flat_map-append}
use Rattle.nor_reader.specs.declared.difference.Mismatch.{Mismatch}
use Rattle.nor_serprog.specs.declared.limits.Limits.{Limits}
use Rattle.nor_loop.proofs.DeviceLemmas.{logged_none, logged_both}
use Rattle.nor_loop.specs.Log.{HasLogged}
use Rattle.nor_reader.specs.declared.by.ReadBy.{ReadBy}
use Rattle.nor_reader.specs.Part.{AllCame}
use Rattle.nor_loop.specs.Reads.{Chunk}
use Rattle.nor_base.specs.Wire.{Wire}
use Rattle.norprog_player.specs.declared.access.Access.{Access}
use Rattle.norprog_player.specs.Access.{way_at}
use Rattle.norprog_player.specs.Compared.{chunk_in, comparison, ops_by, range_ops, AreInOrder, Comparison, HasCompared, HasComparedTo, IsOneSided, IsOneSidedPiece, LiesIn, LiesInOne, Range, ReadsAt, StopsComparing}
use Rattle.nor_cells.specs.Marks.{IsMarked, IsNextMarked, AreMarkedFrom}

-- one range more
in_one_more : (rs : List Range) (r : Range) (a : ℕ) → LiesInOne (rs ++ r ∷ []) a → LiesInOne rs a ⊎ LiesIn r a
in_one_more [] r a (inl h) = inr h
in_one_more [] r a (inr h) = absurd h
in_one_more (x ∷ xs) r a (inl h) = inl (inl h)
in_one_more (x ∷ xs) r a (inr h) = elim (in_one_more xs r a h) [ inl i ↦ inl (inr i) | inr i ↦ inr i ]

in_one_kept : (rs : List Range) (r : Range) (a : ℕ) → LiesInOne rs a → LiesInOne (rs ++ r ∷ []) a
in_one_kept [] r a h = absurd h
in_one_kept (x ∷ xs) r a (inl h) = inl h
in_one_kept (x ∷ xs) r a (inr h) = inr (in_one_kept xs r a h)

in_one_last : (rs : List Range) (r : Range) (a : ℕ) → LiesIn r a → LiesInOne (rs ++ r ∷ []) a
in_one_last [] r a h = inl h
in_one_last (x ∷ xs) r a h = inr (in_one_last xs r a h)

in_order_higher : (most low high higher : ℕ) (rs : List Range) → high ≤ higher → AreInOrder most low high rs → AreInOrder most low higher rs
in_order_higher most low high higher [] more order = omega arith
in_order_higher most low high higher (r ∷ rs) more order = (order.0, order.1, order.2, order.3, in_order_higher most (r.start + r.len) high higher rs more order.4)

in_order_more : (most low high higher : ℕ) (rs : List Range) (r : Range) → AreInOrder most low high rs → high ≤ r.start → 0 < r.len → r.len ≤ most → IsOneSided r
    → r.start + r.len ≤ higher → AreInOrder most low higher (rs ++ r ∷ [])
in_order_more most low high higher [] r order past some few sided upto = (omega arith, some, few, sided, upto)
in_order_more most low high higher (x ∷ xs) r order past some few sided upto =
    (order.0, order.1, order.2, order.3, in_order_more most (x.start + x.len) high higher xs r order.4 past some few sided upto)

-- nothing was read yet
pub none_read : (u : Wire) (c : Comparison) → HasComparedTo u u c 0
none_read u c = record {
  ranges = [];
  in_order = omega arith;
  just = λ k. ((λ h. absurd h), (λ h. absurd (omega (arith, h.0))));
  read = logged_none u.held u.ahead;
}

-- where no address up to a higher one is wanted
pub reaches : (u v : Wire) (c : Comparison) (high higher : ℕ) → high ≤ higher → ((k : ℕ) → high ≤ k → k < higher → c.Wanted k → ⊥)
    → HasComparedTo u v c high → HasComparedTo u v c higher
reaches u v c high higher more none so_far = record {
  ranges = so_far.ranges;
  in_order = in_order_higher c.limits.asked 0 high higher so_far.ranges more so_far.in_order;
  just = λ k. (
    (λ h. let both = (so_far.just k).0 h in (omega (arith, both.0), both.1)),
    (λ h. elim (cases_lt k high) [
      | inl below ↦ (so_far.just k).1 (below, h.1)
      | inr past ↦ absurd (none k past h.0 h.1)
    ]),
  );
  read = so_far.read;
}

-- one range more, of addresses that are all wanted
pub reads_more : (u v w : Wire) (c : Comparison) (r : Range) → 0 < r.len → r.len ≤ c.limits.asked → IsOneSided r
    → ((k : ℕ) → r.start ≤ k → k < r.start + r.len → c.Wanted k) → HasComparedTo u v c r.start → HasLogged v w (range_ops c.access c.content r)
    → HasComparedTo u w c (r.start + r.len)
reads_more u v w c r some few sided wanted so_far read =
    let each = range_ops c.access c.content in
    let ops : flat_map each (so_far.ranges ++ r ∷ []) ≡ flat_map each so_far.ranges ++ each r =
    flat_map-append each so_far.ranges (r ∷ []) ∙ ap (λ l. flat_map each so_far.ranges ++ l) (append-nil (each r)) in
    record {
      ranges = so_far.ranges ++ r ∷ [];
      in_order = in_order_more c.limits.asked 0 r.start (r.start + r.len) so_far.ranges r so_far.in_order (omega arith) some few sided (omega arith);
      just = λ k. (
        (λ h. elim (in_one_more so_far.ranges r k h) [
          | inl before ↦ let both = (so_far.just k).0 before in (omega (arith, both.0), both.1)
          | inr here ↦ (here.1, wanted k here.0 here.1)
        ]),
        (λ h. elim (cases_lt k r.start) [
          | inl below ↦ in_one_kept so_far.ranges r k ((so_far.just k).1 (below, h.1))
          | inr past ↦ in_one_last so_far.ranges r k (past, h.0)
        ]),
      );
      read = subst (HasLogged u w) (sym ops) (logged_both u.held v.held w.held u.ahead v.ahead w.ahead _ _ so_far.read read);
    }

-- bytes that came were read by these operations
all_came : (v w : Wire) (way : Option ReadBy) (want : Chunk) → ReadsAt way want v w (Ok tt) → HasLogged v w (ops_by way want)
all_came v w None want same = subst (λ (x : Wire). HasLogged v x []) (sym same.1) (logged_none v.held v.ahead)
all_came v w (Some by) want (AllCame read) = read

abbrev piece_of : ℕ → ℕ → Range
piece_of start len = record { start = start; len = len }

module _ (limits : Limits) (access : Access) (content : List ℕ) (marks : List Bool) where
  abbrev marked : Comparison
  marked = comparison limits access content (IsMarked marks)

  -- the next piece of marked addresses
  pub piece_more : (u v w : Wire) (done start upto len : ℕ) → IsNextMarked marks done start → AreMarkedFrom marks start limits.asked upto → 0 < len
      → len ≤ upto → IsOneSidedPiece start len → HasComparedTo u v marked done
      → ReadsAt (way_at access start) (chunk_in content (piece_of start len)) v w (Ok tt) → HasComparedTo u w marked (start + len)
  piece_more u v w done start upto len next from some few sided so_far read =
      reads_more u v w marked (piece_of start len) some (omega (arith, few, from.few)) sided
      (λ k past below. from.each k past (omega (arith, below, few)))
      (reaches u v marked done start next.past next.none_before so_far) (all_came v w (way_at access start) (chunk_in content (piece_of start len)) read)

  -- its read ended so
  pub piece_stopped : (u v w : Wire) (done start upto len : ℕ) (why : Mismatch) → start + len ≤ length content → IsNextMarked marks done start
      → AreMarkedFrom marks start limits.asked upto → 0 < len → len ≤ upto → IsOneSidedPiece start len → HasComparedTo u v marked done
      → ReadsAt (way_at access start) (chunk_in content (piece_of start len)) v w (Err why) → StopsComparing u w marked why
  piece_stopped u v w done start upto len why within next from some few sided so_far stop = record {
    last = piece_of start len;
    some = some;
    few = omega (arith, few, from.few);
    within = within;
    sided = sided;
    wanted = λ k h. from.each k h.0 (omega (arith, h.1, few));
    between = v;
    compared = reaches u v marked done start next.past next.none_before so_far;
    stop = stop;
  }

  -- there are no more
  pub all_read : (u v : Wire) (done : ℕ) → done ≤ length content → ((k : ℕ) → done ≤ k → IsMarked marks k → ⊥) → HasComparedTo u v marked done
      → HasCompared u v marked
  all_read u v done within none so_far = reaches u v marked done (length content) within (λ k past below is. none k past is) so_far

-- of addresses that are wanted just where others are
pub wanted_alike : (u v : Wire) (limits : Limits) (access : Access) (content : List ℕ) (P Q : ℕ → Type 0) (high : ℕ) → ((k : ℕ) → k < high → (P k ↔ Q k))
    → HasComparedTo u v (comparison limits access content P) high → HasComparedTo u v (comparison limits access content Q) high
wanted_alike u v limits access content P Q high alike so_far = record {
  ranges = so_far.ranges;
  in_order = so_far.in_order;
  just = λ k. (
    (λ h. let both = (so_far.just k).0 h in (both.0, (alike k both.0).0 both.1)),
    (λ h. (so_far.just k).1 (h.0, (alike k h.0).1 h.1)),
  );
  read = so_far.read;
}
