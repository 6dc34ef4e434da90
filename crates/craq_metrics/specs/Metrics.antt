-- The metrics of a server, of its chains and of its nodes: names, helps, kinds and values.
use Rattle.std.specs.Prelude.{ℕ, List, Bool, true, false, length, codes}
use Rattle.craq_metrics.specs.declared.figures.ServerFigures.{ServerFigures}
use Rattle.craq_metrics.specs.declared.figures.ChainFigures.{ChainFigures}
use Rattle.craq_metrics.specs.declared.figures.NodeFigures.{NodeFigures}
use Rattle.craq_metrics.specs.declared.metrics.MetricKind.{MetricKind}
use Rattle.craq_metrics.specs.declared.metrics.MetricKind.TheVariants as kinds
use Rattle.craq_metrics.specs.declared.metrics.ServerMetric.{ServerMetric}
use Rattle.craq_metrics.specs.declared.metrics.ServerMetric.TheVariants as servers
use Rattle.craq_metrics.specs.declared.metrics.CountMetric.{CountMetric}
use Rattle.craq_metrics.specs.declared.metrics.CountMetric.TheVariants as counts
use Rattle.craq_metrics.specs.declared.metrics.ChainMetric.{ChainMetric}
use Rattle.craq_metrics.specs.declared.metrics.ChainMetric.TheVariants as chains
use Rattle.craq_metrics.specs.declared.metrics.NodeMetric.{NodeMetric}
use Rattle.craq_metrics.specs.declared.metrics.NodeMetric.TheVariants as nodes

abbrev pub kind_name : MetricKind → List ℕ
kind_name kinds.Counter = codes "counter"
kind_name kinds.Gauge = codes "gauge"

-- ---- metrics of the server

abbrev pub server_name : ServerMetric → List ℕ
server_name servers.Uptime = codes "craqd_uptime_seconds"
server_name servers.Open = codes "craqd_open_connections"
server_name servers.Accepted = codes "craqd_connections_total"
server_name servers.TurnedAway = codes "craqd_turned_away_total"
server_name servers.ReadBytes = codes "craqd_read_bytes_total"
server_name servers.WrittenBytes = codes "craqd_written_bytes_total"

abbrev pub server_help : ServerMetric → List ℕ
server_help servers.Uptime = codes "Seconds since the start."
server_help servers.Open = codes "Open connections of clients."
server_help servers.Accepted = codes "Connections accepted."
server_help servers.TurnedAway = codes "Connections closed because no place was free."
server_help servers.ReadBytes = codes "Bytes read from clients."
server_help servers.WrittenBytes = codes "Bytes written to clients."

abbrev pub server_kind : ServerMetric → MetricKind
server_kind servers.Uptime = kinds.Gauge
server_kind servers.Open = kinds.Gauge
server_kind servers.Accepted = kinds.Counter
server_kind servers.TurnedAway = kinds.Counter
server_kind servers.ReadBytes = kinds.Counter
server_kind servers.WrittenBytes = kinds.Counter

abbrev pub server_value : ServerFigures → ServerMetric → ℕ
server_value server servers.Uptime = server.uptime
server_value server servers.Open = server.open_connections
server_value server servers.Accepted = server.accepted
server_value server servers.TurnedAway = server.turned_away
server_value server servers.ReadBytes = server.read_bytes
server_value server servers.WrittenBytes = server.written_bytes

abbrev pub count_name : CountMetric → List ℕ
count_name counts.Requests = codes "craqd_requests_total"
count_name counts.Refusals = codes "craqd_refusals_total"

abbrev pub count_help : CountMetric → List ℕ
count_help counts.Requests = codes "Requests, by kind."
count_help counts.Refusals = codes "Refused requests, and frames that are none, by the refusal's number."

-- ---- metrics of a chain

abbrev pub chain_name : ChainMetric → List ℕ
chain_name chains.Epoch = codes "craqd_chain_epoch"
chain_name chains.Members = codes "craqd_chain_members"

abbrev pub chain_help : ChainMetric → List ℕ
chain_help chains.Epoch = codes "The epoch of the membership."
chain_help chains.Members = codes "Members of the chain."

abbrev pub chain_value : ChainFigures → ChainMetric → ℕ
chain_value chain chains.Epoch = chain.epoch
chain_value chain chains.Members = length chain.nodes.items

-- ---- metrics of a node

abbrev pub node_name : NodeMetric → List ℕ
node_name nodes.Ready = codes "craqd_node_ready"
node_name nodes.Running = codes "craqd_node_running"
node_name nodes.Length = codes "craqd_node_entries"
node_name nodes.Committed = codes "craqd_node_committed_entries"
node_name nodes.Waiting = codes "craqd_node_waiting_requests"
node_name nodes.Objects = codes "craqd_node_objects"
node_name nodes.Bytes = codes "craqd_node_bytes"
node_name nodes.Lost = codes "craqd_node_lost_messages_total"

abbrev pub node_help : NodeMetric → List ℕ
node_help nodes.Ready = codes "1 if the node holds its chain's history."
node_help nodes.Running = codes "1 if the node is not stopped."
node_help nodes.Length = codes "Entries of the node's history."
node_help nodes.Committed = codes "Entries that the node knows to be committed."
node_help nodes.Waiting = codes "Requests that wait at the node."
node_help nodes.Objects = codes "Objects that the node holds."
node_help nodes.Bytes = codes "Bytes of the keys and values that the node holds."
node_help nodes.Lost = codes "Messages at the node that were lost because memory ended."

abbrev pub node_kind : NodeMetric → MetricKind
node_kind nodes.Ready = kinds.Gauge
node_kind nodes.Running = kinds.Gauge
node_kind nodes.Length = kinds.Gauge
node_kind nodes.Committed = kinds.Gauge
node_kind nodes.Waiting = kinds.Gauge
node_kind nodes.Objects = kinds.Gauge
node_kind nodes.Bytes = kinds.Gauge
node_kind nodes.Lost = kinds.Counter

-- 1 for true, 0 for false
abbrev pub bit : Bool → ℕ
bit true = 1
bit false = 0

abbrev pub node_value : NodeFigures → NodeMetric → ℕ
node_value node nodes.Ready = bit node.is_ready
node_value node nodes.Running = bit node.is_running
node_value node nodes.Length = node.length
node_value node nodes.Committed = node.committed
node_value node nodes.Waiting = node.waiting
node_value node nodes.Objects = node.objects
node_value node nodes.Bytes = node.bytes
node_value node nodes.Lost = node.lost
