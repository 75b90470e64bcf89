use Rattle.nor_hex.proofs.LawLemmas.{record_from_words, words_from_record}
use Rattle.nor_hex.proofs.record_iter.records.Goals as goal

pub returns-clause-record : goal.returns-clause-record
returns-clause-record c = λ n line this. (words_from_record n line this, record_from_words n line this)
