use Rattle.std.proofs.Common.{◌≡◌, ◌+◌, ◌++◌, drop, string_bytes}
use Rattle.std.specs.List.{flat_map}
use Rattle.craq_metrics.specs.Exposition.{sample_text}
use Rattle.craq_metrics.specs.Families.{numbered_samples}
use Rattle.craq_metrics.proofs.exposition.push_counts.Given as goal

-- the text so far and the samples that are left are all
abbrev pub invariant-loop-index : goal.invariant-loop-index
invariant-loop-index l =
    string_bytes l.text ++ flat_map (sample_text l.name) (numbered_samples (l.index + 1) (drop l.index l.counts))
    ≡ string_bytes l.initial.text ++ flat_map (sample_text l.name) (numbered_samples 1 l.counts)
