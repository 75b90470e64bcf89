-- The files of a job that were opened.
use Rattle.std.proofs.Common.{◌≡◌, ℕ, List, [], ◌∷◌, ◌++◌, Global, IfErr, Option, Some, Result, option_map, Ok, Err, Vec, subst, sym}
use Rattle.std.specs.Prelude.{IsErrAnd}
use Rattle.nor_base.specs.Device.{Ahead}
use Rattle.norprog_common.specs.Chip.{Origin, Sfdp, Sheet, origin_of}
use Rattle.norprog_common.specs.Held.{Held}
use Rattle.norprog_common.specs.Image.{Bin, Hex, Image, Where, image_in}
use Rattle.norprog_common.specs.declared.faults.FileName.{FileName}
use Rattle.norprog_common.specs.declared.faults.FileName.TheVariants as file
use Rattle.norprog_common.specs.declared.faults.Refusal.{Refusal}
use Rattle.norprog_common.specs.declared.request.Request.{Request}
use Rattle.norprog_files.specs.Files.{AreUsed, Denied, Denies, Event, Given, Here, IsGiven, NoneUsed, OneUsed, Opened, StopsOpening, came}
use Rattle.norprog_named.specs.Opening.{Opening, StopsJob}
use Rattle.norprog_named.specs.Job.{Named, NoChip, NoTables, OfChip, OpensJob, Opens_files, Read_image, Reading, Reads, ReadsImage, ReadsNamed, ReadsTables, Tables, Text, Unnamed, chip_files, image_file, named_by, origin_files}

pub image_used : (image : Image) {bytes : List ℕ} {log : List Event} → ReadsImage image bytes log → AreUsed (image_file image ∷ []) log
image_used (Hex path) {bytes} Read_image = OneUsed file.Hex path _ (Given path bytes) _ (IsGiven bytes) NoneUsed
image_used (Bin place path) {bytes} Read_image = OneUsed file.Bin path _ (Given path bytes) _ (IsGiven bytes) NoneUsed

-- the file of an image was read, or can't be
pub hex_read : (path : List ℕ) (result : Result (Vec ℕ Global) Refusal) → IfErr result (Denies file.Hex)
    → Reading ((file.Hex, path) ∷ []) (λ bytes. ReadsImage (Hex path) bytes.items) result (came result (λ bytes. Given path bytes.items) (Denied path))
hex_read path (Ok bytes) denied = Read_image
hex_read path (Err why) denied = Here file.Hex path [] why denied

pub bin_read : (place : Where) (path : List ℕ) (result : Result (Vec ℕ Global) Refusal) → IfErr result (Denies file.Bin)
    → Reading ((file.Bin, path) ∷ []) (λ bytes. ReadsImage (Bin place path) bytes.items) result (came result (λ bytes. Given path bytes.items) (Denied path))
bin_read place path (Ok bytes) denied = Read_image
bin_read place path (Err why) denied = Here file.Bin path [] why denied

pub reads_used : (name : FileName) {path bytes : Option (List ℕ)} {log : List Event} → Reads path bytes log → AreUsed (named_by name path) log
reads_used name Unnamed = NoneUsed
reads_used name (Named path bytes) = OneUsed name path _ (Given path bytes) _ (IsGiven bytes) NoneUsed

pub tables_used : {origin : Origin} {bytes : List ℕ} {log : List Event} → ReadsTables origin bytes log → AreUsed (origin_files origin) log
tables_used (Tables path bits bytes) = OneUsed file.Sfdp path _ (Given path bytes) _ (IsGiven bytes) NoneUsed
tables_used (NoTables size bytes) = NoneUsed
tables_used (Text path text) = OneUsed file.Sheet path _ (Given path text) _ (IsGiven text) NoneUsed

-- all of a job were opened
pub opens_files : {r : Request} {read : Held} {content : Ahead} {len : ℕ} {image layout tables : List Event} → ReadsImage (image_in r.image) read.hex image
    → Reads (option_map (λ t. t.now) r.layout) read.layout layout → ReadsTables (origin_of r.chip) read.sfdp tables
    → OpensJob r read content len (image ++ (layout ++ (tables ++ (Opened r.content.now content len ∷ []))))
opens_files {layout = layout} {tables = tables} Read_image reads opens = Opens_files layout tables reads opens

-- a refusal that is handed on
pub stops_reading : {A : Type 0} (files : List (FileName × List ℕ)) (Was : A → List Event → Type 0) (result : Result A Refusal) (why : Refusal) (log : List Event)
    → IsErrAnd result (λ told. told ≡ why) → StopsOpening files log why → Reading files Was result log
stops_reading files Was (Ok x) why log is stops = absurd is
stops_reading files Was (Err told) why log is stops = subst (λ (w : Refusal). StopsOpening files log w) (sym is) stops

pub stops_opening : {A : Type 0} (r : Request) (Was : A → List Event → Type 0) (result : Result A Refusal) (why : Refusal) (log : List Event)
    → IsErrAnd result (λ told. told ≡ why) → StopsJob r log why → Opening r Was result log
stops_opening r Was (Ok x) why log is stops = absurd is
stops_opening r Was (Err told) why log is stops = subst (λ (w : Refusal). StopsJob r log w) (sym is) stops

-- the tables of a file were read, or can't be
pub tables_read : (path bits : List ℕ) (result : Result (Vec ℕ Global) Refusal) → IfErr result (Denies file.Sfdp)
    → Reading ((file.Sfdp, path) ∷ []) (λ bytes. ReadsTables (Sfdp path bits) bytes.items) result (came result (λ bytes. Given path bytes.items) (Denied path))
tables_read path bits (Ok bytes) denied = Tables path bits bytes.items
tables_read path bits (Err why) denied = Here file.Sfdp path [] why denied

-- a sheet was read, or can't be
pub sheet_read : (path : List ℕ) (result : Result (Vec ℕ Global) Refusal) → IfErr result (Denies file.Sheet)
    → Reading ((file.Sheet, path) ∷ []) (λ bytes. ReadsTables (Sheet path) bytes.items) result (came result (λ bytes. Given path bytes.items) (Denied path))
sheet_read path (Ok bytes) denied = Text path bytes.items
sheet_read path (Err why) denied = Here file.Sheet path [] why denied

pub named_used : {chip : Option Origin} {tables : List ℕ} {log : List Event} → ReadsNamed chip tables log → AreUsed (chip_files chip) log
named_used (NoChip tables) = NoneUsed
named_used (OfChip origin tables log read) = tables_used read

pub chip_read : (origin : Origin) (result : Result (Vec ℕ Global) Refusal) (log : List Event)
    → Reading (origin_files origin) (λ bytes. ReadsTables origin bytes.items) result log
    → Reading (chip_files (Some origin)) (λ tables. ReadsNamed (Some origin) tables.items) result log
chip_read origin (Ok bytes) log read = OfChip origin bytes.items log read
chip_read origin (Err why) log stops = stops
