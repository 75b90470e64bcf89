-- All parts, the end of the reader and the end record; or what is missing of these.
use Rattle.std.proofs.Common.{◌<◌, arith, inl, inr, subst, ◌≡◌, ◌∙◌, ap}
use Rattle.nor_base.specs.Device.{one_more}
use Rattle.nor_base.proofs.FaultLaws.{handed_on}
use Rattle.nor_hex.specs.Converted.{IsUnended, Unallotted, Unwritable}
use Rattle.nor_hex.proofs.ConvertLemmas.{all_written, end_cut, none_put, none_read, still_more, stops_wider, unreadable}
use Rattle.nor_hex.proofs.converted.convert.Goals as goal

pub returns-in_default-clause-stopped : goal.returns-in_default-clause-stopped
returns-in_default-clause-stopped g c = Unallotted

pub returns-in_default-clause-unended : goal.returns-in_default-clause-unended
returns-in_default-clause-unended g c =
    let held = g.W.ByteOut.held c.args.out.now in
    let none = none_read c.args.at (g.R.ByteIn.ahead c.args.bin.now) held c.parts_join.ensures.none in
    end_cut c.args.at 0 0 _ _ (g.R.ByteIn.ahead c.args.bin.now) _ _ held none (none_put held)

pub returns-in_err-write_parts-clause-stopped : goal.returns-in_err-write_parts-clause-stopped
returns-in_err-write_parts-clause-stopped g c =
    handed_on _ _ _ c.from_residual.ensures.1
    (stops_wider _ (λ cause. elim cause [ inl failed ↦ inl failed | inr short ↦ inr (inl short) ]) (λ failed. failed) c.in_err-write_parts.ensures.stopped)

pub returns-in_err-only_end-clause-stopped : goal.returns-in_err-only_end-clause-stopped
returns-in_err-only_end-clause-stopped g c =
    let before = c.in_ok-write_parts.ensures in
    handed_on _ _ _ c.from_residual-in_err-only_end.ensures.1
    (unreadable _ (
      c.in_err-only_end.ensures.more.0,
      elim c.in_err-only_end.ensures.more.1 [
        | inl failed ↦ inl (subst (λ k. g.R.ByteIn.count c.only_end.new.bin ≡ one_more k) before.counts.0 failed)
        | inr more ↦ inr (inr (still_more _ _ 0 _ _ (g.R.ByteIn.ahead c.only_end.new.bin) _ _ (g.W.ByteOut.held c.args.out.now) before.read more))
      ],
    ))

pub returns-in_err-only_end-clause-unended : goal.returns-in_err-only_end-clause-unended
returns-in_err-only_end-clause-unended g c =
    let held = g.W.ByteOut.held c.write_parts.new.out in
    handed_on (λ x. IsUnended c.args.at (g.W.ByteOut.held c.args.out.now) held) _ _ c.from_residual-in_err-only_end.ensures.1
    (end_cut _ _ 0 _ _ (g.R.ByteIn.ahead c.args.bin.now) _ _ held c.in_ok-write_parts.ensures.read (none_put held))

pub returns-in-Ok-write_end-clause-converted : goal.returns-in-Ok-write_end-clause-converted
returns-in-Ok-write_end-clause-converted g c =
    all_written _ _ 0 _ _ _ _ _ _ c.in_ok-write_parts.ensures.read c.in_ok-only_end.ensures.ended.0 c.in_ok-only_end.ensures.ended.1 c.in-Ok-write_end.ensures.bytes

pub returns-clause-stopped : goal.returns-clause-stopped
returns-clause-stopped g c = Unwritable (c.in-Err.ensures.count ∙ ap one_more c.in_ok-write_parts.ensures.counts.1)

pub returns-clause-unended : goal.returns-clause-unended
returns-clause-unended g c =
    end_cut _ _ 0 _ _ (g.R.ByteIn.ahead c.args.bin.now) _ _ (g.W.ByteOut.held c.write_end.new.out) c.in_ok-write_parts.ensures.read c.in-Err.ensures.bytes
