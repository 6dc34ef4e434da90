-- The text format of Prometheus, version 0.0.4: for each metric its help, its kind and its samples. Texts are lists of bytes.
use Rattle.std.specs.Prelude.{ℕ, List, [], ◌∷◌, ◌++◌, codes}
use Rattle.std.specs.Fmt.{decimal}
use Rattle.std.specs.List.{flat_map}

-- a value of a metric; each label is a name and a value
pub record Sample : Type 0 where
  pub labels : List (List ℕ × List ℕ)
  pub value : ℕ

-- a metric with its samples
pub record Family : Type 0 where
  pub name : List ℕ
  pub help : List ℕ
  pub kind : List ℕ
  pub samples : List Sample

-- NAME="VALUE"
abbrev pub label_text : List ℕ × List ℕ → List ℕ
label_text label = label.0 ++ codes "=\"" ++ label.1 ++ codes "\""

-- no label has no braces
abbrev pub labels_text : List (List ℕ × List ℕ) → List ℕ
labels_text [] = []
labels_text (label ∷ labels) = codes "{" ++ label_text label ++ flat_map (λ (l : List ℕ × List ℕ). codes "," ++ label_text l) labels ++ codes "}"

-- the line of a sample of the metric of this name
unfoldable pub sample_text : List ℕ → Sample → List ℕ
sample_text name sample = name ++ labels_text sample.labels ++ codes " " ++ decimal sample.value ++ codes "\n"

-- the two lines before the samples of a metric
unfoldable pub heading_text : List ℕ → List ℕ → List ℕ → List ℕ
heading_text name help kind = codes "# HELP " ++ name ++ codes " " ++ help ++ codes "\n# TYPE " ++ name ++ codes " " ++ kind ++ codes "\n"

-- the lines of a metric
unfoldable pub family_text : Family → List ℕ
family_text family = heading_text family.name family.help family.kind ++ flat_map (sample_text family.name) family.samples

-- the metrics, one after another
abbrev pub exposition : List Family → List ℕ
exposition families = flat_map family_text families
