-- By computation.
use Rattle.std.proofs.Common.{◌≡◌, refl, ℕ, zero, suc, None}
use Rattle.bstr.specs.Text.{lines_from, line_len}
use Rattle.std.specs.Fmt.{digits}
use Rattle.nor_base.specs.Script.{step_line, header, end_line, step_lines, script_text}
use Rattle.nor_base.specs.Target.{target}
use Rattle.nor_layout.specs.Text.{cause_at}
use Rattle.nor_lines.specs.Lines.{filled_lines}
use Rattle.norprog_laws.specs.Read.{layout}
use Rattle.norprog_laws.proofs.worked.plain_worked.Goals as goal

-- behind its three lines nothing stands
sound : (above : ℕ) → cause_at (filled_lines layout) above ≡ None
unfolding lines_from line_len
sound zero = refl
sound (suc zero) = refl
sound (suc (suc zero)) = refl
sound (suc (suc (suc n))) = refl

pub returns : goal.returns
unfolding lines_from line_len digits step_line header end_line step_lines script_text target
returns c = record {
  bytes = refl;
  symbols = refl;
  steps = refl;
  script = record { each = (record { passes = refl; bytes = refl }, tt); spelled = refl };
  gives = refl;
  chip = record { its_meaning = refl; its_start = refl; its_page = refl };
  possible = λ is. cc;
  wanted = refl;
  layout = record { spelled = refl; sound = sound };
  no_layout = refl;
}
