mod TableLemmas
mod UsedLemmas
mod HelpLemmas
mod FitsLemmas
mod SpelledLemmas
mod WorkedWords
