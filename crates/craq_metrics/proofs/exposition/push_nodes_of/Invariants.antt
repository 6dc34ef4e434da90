use Rattle.std.proofs.Common.{◌≡◌, ◌++◌, drop, map, string_bytes}
use Rattle.std.specs.List.{flat_map}
use Rattle.craq_metrics.specs.Exposition.{sample_text}
use Rattle.craq_metrics.specs.Families.{node_sample}
use Rattle.craq_metrics.specs.Metrics.{node_name}
use Rattle.craq_metrics.proofs.exposition.push_nodes_of.Given as goal

-- the text so far and the samples that are left are all
abbrev pub invariant-loop-node : goal.invariant-loop-node
invariant-loop-node l =
    string_bytes l.text ++ flat_map (sample_text (node_name l.metric)) (map (node_sample l.metric (string_bytes l.chain.name)) (drop l.node-index l.chain.nodes.items))
    ≡ string_bytes l.initial.text ++ flat_map (sample_text (node_name l.metric)) (map (node_sample l.metric (string_bytes l.chain.name)) l.chain.nodes.items)
