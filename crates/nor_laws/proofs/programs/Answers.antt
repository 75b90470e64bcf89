-- What a program puts, and that it stays within its page.
use Rattle.nor_laws.proofs.ProgramLaws.{program_puts_byte, raised_for_byte, not_erased_for_byte}
use Rattle.nor_laws.proofs.EffectLaws.{program_keeps_others, program_judged_by_page}
use Rattle.nor_laws.proofs.programs.Goals as goal

pub returns-clause-puts : goal.returns-clause-puts
returns-clause-puts c = program_puts_byte

pub returns-clause-raised : goal.returns-clause-raised
returns-clause-raised c = raised_for_byte

pub returns-clause-keeps : goal.returns-clause-keeps
returns-clause-keeps c = program_keeps_others

pub returns-clause-judged : goal.returns-clause-judged
returns-clause-judged c = program_judged_by_page

pub returns-clause-not_erased : goal.returns-clause-not_erased
returns-clause-not_erased c = not_erased_for_byte
