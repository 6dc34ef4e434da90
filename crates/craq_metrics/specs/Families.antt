-- The metrics of a server's figures, with their samples.
use Rattle.std.specs.Prelude.{ℕ, ◌+◌, List, [], ◌∷◌, ◌++◌, map, codes, string_bytes}
use Rattle.std.specs.Fmt.{decimal}
use Rattle.std.specs.List.{flat_map}
use Rattle.craq_metrics.specs.declared.figures.ServerFigures.{ServerFigures}
use Rattle.craq_metrics.specs.declared.figures.ChainFigures.{ChainFigures}
use Rattle.craq_metrics.specs.declared.figures.NodeFigures.{NodeFigures}
use Rattle.craq_metrics.specs.declared.metrics.MetricKind.TheVariants.{Counter, Gauge}
use Rattle.craq_metrics.specs.declared.metrics.ServerMetric.{ServerMetric}
use Rattle.craq_metrics.specs.declared.metrics.ServerMetric.TheVariants as servers
use Rattle.craq_metrics.specs.declared.metrics.CountMetric.TheVariants as counts
use Rattle.craq_metrics.specs.declared.metrics.ChainMetric.{ChainMetric}
use Rattle.craq_metrics.specs.declared.metrics.ChainMetric.TheVariants as chains
use Rattle.craq_metrics.specs.declared.metrics.NodeMetric.{NodeMetric}
use Rattle.craq_metrics.specs.declared.metrics.NodeMetric.TheVariants as nodes
use Rattle.craq_metrics.specs.Exposition.{Sample, Family}
use Rattle.craq_metrics.specs.Metrics.{kind_name, server_name, server_help, server_kind, server_value, count_name, count_help, chain_name, chain_help, chain_value, node_name, node_help, node_kind, node_value}

-- ---- the server

unfoldable pub server_family : ServerFigures → ServerMetric → Family
server_family server metric = record {
  name = server_name metric;
  help = server_help metric;
  kind = kind_name (server_kind metric);
  samples = record { labels = []; value = server_value server metric } ∷ [];
}

abbrev pub server_families : ServerFigures → List Family
server_families server =
    server_family server servers.Uptime
    ∷ server_family server servers.Open
    ∷ server_family server servers.Accepted
    ∷ server_family server servers.TurnedAway
    ∷ server_family server servers.ReadBytes
    ∷ server_family server servers.WrittenBytes
    ∷ []

-- a sample with the label `kind`
abbrev pub kind_sample : List ℕ → ℕ → Sample
kind_sample kind count = record { labels = (codes "kind", kind) ∷ []; value = count }

-- requests by kind
unfoldable pub requests_family : ServerFigures → Family
requests_family server = record {
  name = count_name counts.Requests;
  help = count_help counts.Requests;
  kind = kind_name Counter;
  samples = kind_sample (codes "update") server.updates ∷ kind_sample (codes "read") server.reads ∷ kind_sample (codes "status") server.statuses ∷ [];
}

-- values with their numbers, the first of which is this one
abbrev pub numbered_samples : ℕ → List ℕ → List Sample
numbered_samples number [] = []
numbered_samples number (value ∷ values) =
    record { labels = (codes "number", decimal number) ∷ []; value = value } ∷ numbered_samples (number + 1) values

-- refusals by number
unfoldable pub refusals_family : ServerFigures → Family
refusals_family server = record {
  name = count_name counts.Refusals;
  help = count_help counts.Refusals;
  kind = kind_name Counter;
  samples = numbered_samples 1 server.refused;
}

-- ---- the chains

abbrev pub chain_sample : ChainMetric → ChainFigures → Sample
chain_sample metric chain = record { labels = (codes "chain", string_bytes chain.name) ∷ []; value = chain_value chain metric }

unfoldable pub chain_family : List ChainFigures → ChainMetric → Family
chain_family figures metric = record {
  name = chain_name metric;
  help = chain_help metric;
  kind = kind_name Gauge;
  samples = map (chain_sample metric) figures;
}

-- ---- the nodes

-- the sample of a node of the chain of this name
abbrev pub node_sample : NodeMetric → List ℕ → NodeFigures → Sample
node_sample metric chain node =
    record { labels = (codes "chain", chain) ∷ (codes "node", decimal node.node) ∷ []; value = node_value node metric }

abbrev pub node_samples : NodeMetric → ChainFigures → List Sample
node_samples metric chain = map (node_sample metric (string_bytes chain.name)) chain.nodes.items

unfoldable pub node_family : List ChainFigures → NodeMetric → Family
node_family figures metric = record {
  name = node_name metric;
  help = node_help metric;
  kind = kind_name (node_kind metric);
  samples = flat_map (node_samples metric) figures;
}

abbrev pub chain_families : List ChainFigures → List Family
chain_families figures =
    chain_family figures chains.Epoch
    ∷ chain_family figures chains.Members
    ∷ []

-- the states of nodes
abbrev pub node_state_families : List ChainFigures → List Family
node_state_families figures =
    node_family figures nodes.Ready
    ∷ node_family figures nodes.Running
    ∷ []

-- the counts of nodes
abbrev pub node_count_families : List ChainFigures → List Family
node_count_families figures =
    node_family figures nodes.Length
    ∷ node_family figures nodes.Committed
    ∷ node_family figures nodes.Waiting
    ∷ node_family figures nodes.Objects
    ∷ node_family figures nodes.Bytes
    ∷ node_family figures nodes.Lost
    ∷ []

abbrev pub node_families : List ChainFigures → List Family
node_families figures = node_state_families figures ++ node_count_families figures

-- ---- all

abbrev pub families_of : ServerFigures → List ChainFigures → List Family
families_of server figures = server_families server ++ requests_family server ∷ refusals_family server ∷ (chain_families figures ++ node_families figures)
