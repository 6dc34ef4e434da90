use Rattle.std.proofs.Common.{◌≡◌, ◌++◌, drop, map, string_bytes}
use Rattle.std.specs.List.{flat_map}
use Rattle.craq_metrics.specs.Exposition.{sample_text}
use Rattle.craq_metrics.specs.Families.{chain_sample}
use Rattle.craq_metrics.specs.Metrics.{chain_name}
use Rattle.craq_metrics.proofs.exposition.push_chain_samples.Given as goal

-- the text so far and the samples that are left are all
abbrev pub invariant-loop-chain : goal.invariant-loop-chain
invariant-loop-chain l =
    string_bytes l.text ++ flat_map (sample_text (chain_name l.metric)) (map (chain_sample l.metric) (drop l.chain-index l.chains))
    ≡ string_bytes l.initial.text ++ flat_map (sample_text (chain_name l.metric)) (map (chain_sample l.metric) l.chains)
