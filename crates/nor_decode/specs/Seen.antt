-- A transaction as it was seen, as plain data.
use Rattle.nor_base.specs.Decoding.{Transaction}
use Rattle.nor_decode.specs.declared.seen.Seen.{Seen}

abbrev pub transaction_of : Seen → Transaction
transaction_of seen = record { what = seen.what; address = seen.address; body = seen.body.now }
