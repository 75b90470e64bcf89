-- The printed text is the lines of the statements.
use Rattle.std.proofs.Common.{◌≡◌, ◌∙◌, ℕ, Bool, true, false, List, [], ◌∷◌, ◌++◌, map, Option, Some, None, refl, sym, ap, append-nil}
use Rattle.std.specs.Prelude.{codes, decimal, flat_map}
use Rattle.std.proofs.lemmas.Grind.{flat_map-append}
use Rattle.std.proofs.lemmas.List.{append_assoc, map-append}
use Rattle.nor_base.specs.declared.meaning.Width.{Width}
use Rattle.nor_base.specs.declared.meaning.Width.TheVariants.{Three, Both, Four}
use Rattle.nor_base.specs.declared.meaning.Switch.{Switch}
use Rattle.nor_base.specs.declared.meaning.Switch.TheVariants.{Absent, Plain, Latched}
use Rattle.nor_base.specs.declared.meaning.Erase.{Erase}
use Rattle.nor_base.specs.declared.meaning.Region.{Region}
use Rattle.nor_base.specs.declared.meaning.QuadRead.{QuadRead}
use Rattle.nor_base.specs.Script.{closed}
use Rattle.norprog.specs.ChipText.{hex_byte, page_end, width_text, erase_text, op4_text, switch_text, quad_read_text, offered_text, region_text}
use Rattle.norprog_laws.proofs.RunLemmas.{Printed, line_of}
use Rattle.norprog_laws.proofs.PrintedLemmas.{size_printed, page_printed, address_printed, kind_printed, enter_printed, leave_printed, read_printed, dedicated_printed, region_printed}

-- the text of some statements
abbrev pub lined : List Printed → List ℕ
lined ps = flat_map closed (map line_of ps)

pub lined_append : (ps qs : List Printed) → lined (ps ++ qs) ≡ lined ps ++ lined qs
lined_append ps qs = ap (flat_map closed) (map-append line_of ps qs) ∙ flat_map-append closed (map line_of ps) (map line_of qs)

-- a line that ends with a word and its line feed, and what is after it
fed : (a rest : List ℕ) → a ++ 10 ∷ rest ≡ (a ++ 10 ∷ []) ++ rest
fed a rest = sym (append_assoc a (10 ∷ []) rest)

width_lined : (width : Width) → width_text width ≡ lined (address_printed width ∷ [])
width_lined Three = refl
width_lined Both = refl
width_lined Four = refl

page_lined : (n : ℕ) (open_page : Bool) (rest : List ℕ) → codes "page " ++ (decimal n ++ (page_end open_page ++ rest)) ≡ closed (line_of (page_printed n open_page)) ++ rest
page_lined n true rest = ap (λ l. codes "page " ++ l) (sym (append_assoc (decimal n) (codes " up\n") rest)) ∙ ap (λ l. codes "page " ++ (l ++ rest)) (sym (append_assoc (decimal n) (codes " up") (10 ∷ [])))
page_lined n false rest = ap (λ l. codes "page " ++ l) (fed (decimal n) rest)

pub front_lined : (n page : ℕ) (open_page : Bool) (width : Width)
    → codes "size " ++ (decimal n ++ (codes "\npage " ++ (decimal page ++ (page_end open_page ++ width_text width)))) ≡ lined (size_printed n ∷ page_printed page open_page ∷ address_printed width ∷ [])
front_lined n page open_page width =
    ap (λ l. codes "size " ++ (decimal n ++ 10 ∷ l)) (page_lined page open_page (width_text width))
    ∙ ap (λ l. codes "size " ++ l) (fed (decimal n) (closed (line_of (page_printed page open_page)) ++ width_text width))
    ∙ ap (λ l. closed (line_of (size_printed n)) ++ (closed (line_of (page_printed page open_page)) ++ l)) (width_lined width)

abbrev pub kind_listed : ℕ → Option Erase → List Printed
kind_listed k None = []
kind_listed k (Some erase) = kind_printed k erase ∷ []

-- words and blanks, and a line feed
erase_fed : (a b c d : List ℕ) → a ++ 32 ∷ (b ++ 32 ∷ (c ++ 32 ∷ (d ++ 10 ∷ []))) ≡ (a ++ 32 ∷ (b ++ 32 ∷ (c ++ 32 ∷ d))) ++ 10 ∷ []
erase_fed a b c d =
    ap (λ l. a ++ 32 ∷ (b ++ 32 ∷ l)) (sym (append_assoc c (32 ∷ d) (10 ∷ [])))
    ∙ ap (λ l. a ++ 32 ∷ l) (sym (append_assoc b (32 ∷ (c ++ 32 ∷ d)) (10 ∷ [])))
    ∙ sym (append_assoc a (32 ∷ (b ++ 32 ∷ (c ++ 32 ∷ d))) (10 ∷ []))

pub kind_lined : (k : ℕ) (slot : Option Erase) → erase_text k slot ≡ lined (kind_listed k slot)
kind_lined k None = refl
kind_lined k (Some erase) =
    ap (λ l. codes "erase " ++ l) (erase_fed (decimal k) (decimal erase.size) (hex_byte erase.op) (op4_text erase.op4))
    ∙ sym (append-nil (closed (line_of (kind_printed k erase))))

enter_lined : (switch : Switch) → codes "enter" ++ switch_text switch ≡ closed (line_of (enter_printed switch))
enter_lined Absent = refl
enter_lined Plain = refl
enter_lined Latched = refl

leave_lined : (switch : Switch) → codes "leave" ++ switch_text switch ≡ closed (line_of (leave_printed switch))
leave_lined Absent = refl
leave_lined Plain = refl
leave_lined Latched = refl

pub modes_lined : (enter leave : Switch) → codes "enter" ++ (switch_text enter ++ (codes "leave" ++ switch_text leave)) ≡ lined (enter_printed enter ∷ leave_printed leave ∷ [])
modes_lined enter leave =
    sym (append_assoc (codes "enter") (switch_text enter) (codes "leave" ++ switch_text leave))
    ∙ ap (λ l. l ++ (codes "leave" ++ switch_text leave)) (enter_lined enter)
    ∙ ap (λ l. closed (line_of (enter_printed enter)) ++ l) (leave_lined leave ∙ sym (append-nil (closed (line_of (leave_printed leave)))))

two_fed : (a b : List ℕ) → a ++ 32 ∷ (b ++ 10 ∷ []) ≡ (a ++ 32 ∷ b) ++ 10 ∷ []
two_fed a b = sym (append_assoc a (32 ∷ b) (10 ∷ []))

pub read_lined : (read : Option QuadRead) → quad_read_text read ≡ lined (read_printed read ∷ [])
read_lined None = refl
read_lined (Some read) =
    ap (λ l. codes "quadread " ++ l) (two_fed (hex_byte read.op) (decimal read.dummies)) ∙ sym (append-nil (closed (line_of (read_printed (Some read)))))

pub dedicated_lined : (a b c d : Bool)
    → codes "dedicated" ++ (offered_text a (codes " 13") ++ (offered_text b (codes " 6c") ++ (offered_text c (codes " 12") ++ (offered_text d (codes " 34") ++ codes "\n"))))
    ≡ lined (dedicated_printed a b c d ∷ [])
dedicated_lined true true true true = refl
dedicated_lined true true true false = refl
dedicated_lined true true false true = refl
dedicated_lined true true false false = refl
dedicated_lined true false true true = refl
dedicated_lined true false true false = refl
dedicated_lined true false false true = refl
dedicated_lined true false false false = refl
dedicated_lined false true true true = refl
dedicated_lined false true true false = refl
dedicated_lined false true false true = refl
dedicated_lined false true false false = refl
dedicated_lined false false true true = refl
dedicated_lined false false true false = refl
dedicated_lined false false false true = refl
dedicated_lined false false false false = refl

region_line : (region : Region) → region_text region ≡ closed (line_of (region_printed region))
region_line region = ap (λ l. codes "region " ++ l) (two_fed (decimal region.size) (decimal region.kinds))

pub regions_lined : (regions : List Region) → flat_map region_text regions ≡ lined (map region_printed regions)
regions_lined [] = refl
regions_lined (region ∷ regions) =
    ap (λ l. l ++ flat_map region_text regions) (region_line region) ∙ ap (λ l. closed (line_of (region_printed region)) ++ l) (regions_lined regions)
