-- The image that several files give together, step by step.
use Rattle.std.proofs.Common.{◌≡◌, ◌∙◌, ℕ, List, [], ◌∷◌, ◌++◌, drop, length, map, Option, Result, Ok, Err, ap, arith, refl, subst, sym}
use Rattle.std.specs.Prelude.{IfErr, IfOk}
use Rattle.nor_hex.specs.Image.{Pairs}
use Rattle.norprog_common.specs.Image.{Image, IsDataOf, IsImageIn, IsJoined, RefusesData, RefusesImage, RefusesJoin, image_in, images_in}
use Rattle.norprog_common.specs.declared.faults.Refusal.{Refusal}
use Rattle.norprog_common.specs.declared.given.ImageArgs.{ImageArgs}
use Rattle.norprog_common.specs.declared.image.ImageData.{ImageData}
use Rattle.norprog_common.specs.declared.image.ImageData.TheVariants as whole
use Rattle.norprog_common.specs.declared.image.ImageFile.{ImageFile}
use Rattle.norprog_files.specs.Files.{Event}
use Rattle.norprog_named.specs.Gathered.{Alone, Gathers, Joins, JoinsAll, Next, NoData, NoFirst, NoMore, NoOther, NotBoth, StopsAt, Together, With_file}
use Rattle.norprog_named.specs.Job.{ReadsImage, Read_image}

-- a file that was read and gives this, laid over an image or not
pub joins : {base : ℕ} {layout : Option (List ℕ)} {file : Image} {image : Pairs} {bytes : List ℕ} {beside : ImageData} {log : List Event}
    (result : Result Pairs Refusal) → ReadsImage file bytes log → IsDataOf base layout bytes file beside → IfOk result (IsJoined image beside)
    → IfErr result (RefusesJoin image beside) → Joins base layout file image result log
joins {bytes = bytes} {beside = beside} (Ok both) Read_image is joined refused = With_file bytes beside both is joined
joins {bytes = bytes} {beside = beside} (Err why) Read_image is joined refuses = NotBoth bytes beside why is refuses

-- one that was read and gives nothing
pub has_none : {base : ℕ} {layout : Option (List ℕ)} {file : Image} {image : Pairs} {bytes : List ℕ} {log : List Event} {why : Refusal}
    → ReadsImage file bytes log → RefusesData base layout bytes file why → Joins base layout file image (Err why) log
has_none {bytes = bytes} {why = why} Read_image refuses = NoData bytes why refuses

-- ---- which files are further ones

pub none_more : {base : ℕ} {layout : Option (List ℕ)} {first : ImageData} (given : ImageArgs) (items slice : List ImageFile) → slice ≡ items
    → map image_in items ≡ images_in given → length slice ≡ 0 → Gathers base layout first (drop 1 (images_in given)) (Ok first) []
none_more {base} {layout} {first} given [] slice same is none = subst (λ (files : List Image). Gathers base layout first (drop 1 files) (Ok first) []) is Alone
none_more {base} {layout} {first} given (file ∷ rest) slice same is none = absurd (let more = ap length same in omega (arith, more, none))

pub some_more : {base : ℕ} {layout : Option (List ℕ)} {first : ImageData} {result : Result ImageData Refusal} {log : List Event} (given : ImageArgs)
    (items slice : List ImageFile) (file : ImageFile) (more : List ImageFile) → slice ≡ items → map image_in items ≡ images_in given → slice ≡ file ∷ more
    → Gathers base layout first (map image_in more) result log → Gathers base layout first (drop 1 (images_in given)) result log
some_more {base} {layout} {first} {result} {log} given items slice file more same is split gathers =
    subst (λ (files : List Image). Gathers base layout first (drop 1 files) result log)
    (ap (map image_in) (sym split ∙ same) ∙ is) gathers

pub alone : {base : ℕ} {layout : Option (List ℕ)} {first : ImageData} (more : List ImageFile) → length more ≡ 0
    → Gathers base layout first (map image_in more) (Ok first) []
alone [] none = Alone
alone (file ∷ rest) none = cc

pub no_first : {base : ℕ} {layout : Option (List ℕ)} {first : ImageData} (more : List ImageFile) {why : Refusal} → (length more ≡ 0 → ⊥)
    → RefusesImage first why → Gathers base layout first (map image_in more) (Err why) []
no_first [] some refuses = absurd (some refl)
no_first (file ∷ rest) some refuses = NoFirst (image_in file) (map image_in rest) _ refuses

pub together : {base : ℕ} {layout : Option (List ℕ)} {first : ImageData} (more : List ImageFile) {image all : Pairs} {log : List Event} → (length more ≡ 0 → ⊥)
    → IsImageIn first image → JoinsAll base layout (map image_in more) image (Ok all) log
    → Gathers base layout first (map image_in more) (Ok (whole.Image all)) log
together [] some is joins = absurd (some refl)
together (file ∷ rest) {image} {all} {log} some is joins = Together (image_in file) (map image_in rest) image all log is joins

pub no_other : {base : ℕ} {layout : Option (List ℕ)} {first : ImageData} (more : List ImageFile) {image : Pairs} {log : List Event} {why : Refusal}
    → (length more ≡ 0 → ⊥) → IsImageIn first image → JoinsAll base layout (map image_in more) image (Err why) log
    → Gathers base layout first (map image_in more) (Err why) log
no_other [] some is joins = absurd (some refl)
no_other (file ∷ rest) {image} {log} {why} some is joins = NoOther (image_in file) (map image_in rest) image log why is joins

-- ---- one file after another

pub no_more : {base : ℕ} {layout : Option (List ℕ)} (more : List ImageFile) (image : Pairs) → length more ≡ 0
    → JoinsAll base layout (map image_in more) image (Ok image) []
no_more [] image none = NoMore image
no_more (file ∷ rest) image none = cc

pub stops_at : {base : ℕ} {layout : Option (List ℕ)} {image : Pairs} {log : List Event} {why : Refusal} (more : List ImageFile) (file : ImageFile)
    (rest : List ImageFile) → more ≡ file ∷ rest → Joins base layout (image_in file) image (Err why) log
    → JoinsAll base layout (map image_in more) image (Err why) log
stops_at {base} {layout} {image} {log} {why} more file rest split joins =
    subst (λ (files : List Image). JoinsAll base layout files image (Err why) log) (sym (ap (map image_in) split))
    (StopsAt (image_in file) (map image_in rest) image log why joins)

pub joins_on : {base : ℕ} {layout : Option (List ℕ)} {image both : Pairs} {log further : List Event} {answer : Result Pairs Refusal} (more : List ImageFile)
    (file : ImageFile) (rest : List ImageFile) → more ≡ file ∷ rest → Joins base layout (image_in file) image (Ok both) log
    → JoinsAll base layout (map image_in rest) both answer further → JoinsAll base layout (map image_in more) image answer (log ++ further)
joins_on {base} {layout} {image} {both} {log} {further} {answer} more file rest split joins next =
    subst (λ (files : List Image). JoinsAll base layout files image answer (log ++ further)) (sym (ap (map image_in) split))
    (Next (image_in file) (map image_in rest) image both log further answer joins next)
