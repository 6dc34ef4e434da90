-- The figures of a server as JSON.
use Rattle.std.specs.Prelude.{ℕ, List, map, codes, string_bytes}
use Rattle.serde_json.specs.Data.{Data, boolean, number, unsigned, string, array, object, member, no_members}
use Rattle.serde_json.specs.View.{items_of}
use Rattle.serde_json.specs.Written.{compact_text}
use Rattle.craq_metrics.specs.declared.figures.ServerFigures.{ServerFigures}
use Rattle.craq_metrics.specs.declared.figures.ChainFigures.{ChainFigures}
use Rattle.craq_metrics.specs.declared.figures.NodeFigures.{NodeFigures}

abbrev pub number_of : ℕ → Data
number_of n = number (unsigned n)

unfoldable pub node_data : NodeFigures → Data
node_data n =
    object
    (member (codes "bytes") (number_of n.bytes)
    (member (codes "committed") (number_of n.committed)
    (member (codes "length") (number_of n.length)
    (member (codes "lost") (number_of n.lost)
    (member (codes "node") (number_of n.node)
    (member (codes "objects") (number_of n.objects)
    (member (codes "ready") (boolean n.is_ready)
    (member (codes "running") (boolean n.is_running)
    (member (codes "waiting") (number_of n.waiting) no_members)))))))))

abbrev pub chain_data : ChainFigures → Data
chain_data c =
    object
    (member (codes "epoch") (number_of c.epoch)
    (member (codes "name") (string (string_bytes c.name))
    (member (codes "nodes") (array (items_of (map node_data c.nodes.items))) no_members)))

abbrev pub connections_data : ServerFigures → Data
connections_data s =
    object
    (member (codes "accepted") (number_of s.accepted)
    (member (codes "open") (number_of s.open_connections)
    (member (codes "turned_away") (number_of s.turned_away) no_members)))

abbrev pub requests_data : ServerFigures → Data
requests_data s =
    object
    (member (codes "reads") (number_of s.reads)
    (member (codes "statuses") (number_of s.statuses)
    (member (codes "updates") (number_of s.updates) no_members)))

abbrev pub bytes_data : ServerFigures → Data
bytes_data s = object (member (codes "read") (number_of s.read_bytes) (member (codes "written") (number_of s.written_bytes) no_members))

unfoldable pub status_data : ServerFigures → List ChainFigures → Data
status_data s chains =
    object
    (member (codes "bytes") (bytes_data s)
    (member (codes "chains") (array (items_of (map chain_data chains)))
    (member (codes "connections") (connections_data s)
    (member (codes "refusals") (array (items_of (map number_of s.refused)))
    (member (codes "requests") (requests_data s)
    (member (codes "uptime_seconds") (number_of s.uptime) no_members))))))

-- the compact JSON of the figures
unfoldable pub status_text : ServerFigures → List ChainFigures → List ℕ
status_text s chains = compact_text (status_data s chains)
