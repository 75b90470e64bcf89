-- The words of instructions, by what a chip sees.
use Rattle.std.proofs.Common.{◌≡◌, ℕ, ◌+◌, ◌/◌, List, [], ◌∷◌, ◌++◌, length, sym, ◌∙◌, ap, subst, arith}
use Rattle.std.specs.Prelude.{codes}
use Rattle.nor_base.specs.declared.instruction.What.{What}
use Rattle.nor_base.specs.declared.instruction.What.TheVariants as what
use Rattle.nor_base.specs.Parameters.{Parameters}
use Rattle.nor_base.specs.Instructions.{form_of}
use Rattle.nor_base.specs.Decoding.{Transaction, instruction, opcode, bytes_sent, bytes_asked}
use Rattle.nor_base.specs.Script.{closed, hex_pair}
use Rattle.nor_listing.specs.Listing.{in_eight, counted, spelled, sent_words, read_words}
use Rattle.nor_listing.proofs.LineLemmas.{count_line}

abbrev pub seen_as : ℕ → List ℕ → What → Transaction
seen_as address body w = record { what = w; address = address; body = body }

-- so many bytes are sent or asked for
abbrev pub counts : ℕ → List ℕ → What → Type 0
counts n body w = n ≡ length (bytes_sent (form_of w) body) + bytes_asked (form_of w) body

module _ (m : Parameters) (clocks : List ℕ) (address : ℕ) (body : List ℕ) (op : ℕ) (begins : op ≡ opcode clocks) where
  abbrev Programs : List ℕ → What → Type 0
  Programs word w =
      let i = instruction (seen_as address body w) in
      closed (word ++ (hex_pair op ++ (in_eight address ++ (counted (length i.sent) ++ spelled i.sent)))) ≡ closed (sent_words m clocks i w)

  pub program_is : (w : What) → w ≡ what.Program → Programs (codes "program ") w
  program_is w is =
      let i = instruction (seen_as address body what.Program) in
      subst (Programs (codes "program ")) (sym is)
      (ap (λ o. closed (codes "program " ++ (hex_pair o ++ (in_eight address ++ (counted (length i.sent) ++ spelled i.sent))))) begins)

  pub quad_program_is : (w : What) → w ≡ what.QuadProgram → Programs (codes "quadprogram ") w
  quad_program_is w is =
      let i = instruction (seen_as address body what.QuadProgram) in
      subst (Programs (codes "quadprogram ")) (sym is)
      (ap (λ o. closed (codes "quadprogram " ++ (hex_pair o ++ (in_eight address ++ (counted (length i.sent) ++ spelled i.sent))))) begins)

  abbrev Reads : ℕ → List ℕ → What → Type 0
  Reads n word w =
      counts n body w → word ++ (hex_pair op ++ (in_eight address ++ (counted n ++ 0x0A ∷ []))) ≡ closed (sent_words m clocks (instruction (seen_as address body w)) w)

  reads : (word : List ℕ) (n k : ℕ) → n ≡ 0 + k
      → word ++ (hex_pair op ++ (in_eight address ++ (counted n ++ 0x0A ∷ []))) ≡ closed (word ++ (hex_pair (opcode clocks) ++ (in_eight address ++ counted k)))
  reads word n k count =
      let same : n ≡ k = omega (arith, count) in
      ap (λ o. word ++ (hex_pair o ++ (in_eight address ++ (counted n ++ 0x0A ∷ [])))) begins
      ∙ ap (λ i. word ++ (hex_pair (opcode clocks) ++ (in_eight address ++ (counted i ++ 0x0A ∷ [])))) same
      ∙ count_line word (hex_pair (opcode clocks)) (in_eight address) (counted k)

  pub read_is : (n : ℕ) (w : What) → w ≡ what.Read → Reads n (codes "read ") w
  read_is n w is = subst (Reads n (codes "read ")) (sym is) (reads (codes "read ") n (length body / 8))

  pub quad_read_is : (n : ℕ) (w : What) → w ≡ what.QuadRead → Reads n (codes "quadread ") w
  quad_read_is n w is = subst (Reads n (codes "quadread ")) (sym is) (reads (codes "quadread ") n (length body / 2))

module _ (clocks expect : List ℕ) (address : ℕ) (body : List ℕ) (op : ℕ) (begins : op ≡ opcode clocks) where
  abbrev Verifies : ℕ → List ℕ → What → Type 0
  Verifies n word w =
      counts n body w → closed (word ++ (hex_pair op ++ (in_eight address ++ (counted n ++ spelled expect))))
      ≡ closed (read_words clocks expect (instruction (seen_as address body w)) w)

  verifies : (word : List ℕ) (n k : ℕ) → n ≡ 0 + k → closed (word ++ (hex_pair op ++ (in_eight address ++ (counted n ++ spelled expect))))
      ≡ closed (word ++ (hex_pair (opcode clocks) ++ (in_eight address ++ (counted k ++ spelled expect))))
  verifies word n k count =
      let same : n ≡ k = omega (arith, count) in
      ap (λ o. closed (word ++ (hex_pair o ++ (in_eight address ++ (counted n ++ spelled expect))))) begins
      ∙ ap (λ i. closed (word ++ (hex_pair (opcode clocks) ++ (in_eight address ++ (counted i ++ spelled expect))))) same

  pub verify_is : (n : ℕ) (w : What) → w ≡ what.Read → Verifies n (codes "verify ") w
  verify_is n w is = subst (Verifies n (codes "verify ")) (sym is) (verifies (codes "verify ") n (length body / 8))

  pub quad_verify_is : (n : ℕ) (w : What) → w ≡ what.QuadRead → Verifies n (codes "quadverify ") w
  quad_verify_is n w is = subst (Verifies n (codes "quadverify ")) (sym is) (verifies (codes "quadverify ") n (length body / 2))
