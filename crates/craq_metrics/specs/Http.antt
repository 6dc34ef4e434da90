-- Requests for pages, and responses.
use Rattle.std.specs.Prelude.{⊤, ℕ, List, ◌++◌, length, codes, if◌then◌else◌}
use Rattle.std.specs.Fmt.{decimal}
use Rattle.craq_names.specs.Maps.{same_bytes}
use Rattle.craq_metrics.specs.declared.http.HttpRequest.{HttpRequest}
use Rattle.craq_metrics.specs.declared.http.HttpRequest.TheVariants.{Page, NotFound, NotAllowed, Bad, Unfinished}
use Rattle.craq_metrics.specs.declared.http.Page.TheVariants as pages
use Rattle.craq_metrics.specs.declared.http.HttpStatus.{HttpStatus}
use Rattle.craq_metrics.specs.declared.http.HttpStatus.TheVariants as statuses
use Rattle.craq_metrics.specs.declared.http.MediaType.{MediaType}
use Rattle.craq_metrics.specs.declared.http.MediaType.TheVariants as media

-- the meaning of a whole request
abbrev pub IsWhole : HttpRequest → Type 0
IsWhole (Page page) = ⊤
IsWhole NotFound = ⊤
IsWhole NotAllowed = ⊤
IsWhole Bad = ⊥
IsWhole Unfinished = ⊥

-- the page of a target
unfoldable pub page_of : List ℕ → HttpRequest
page_of target =
    if same_bytes target (codes "/metrics") then Page pages.Metrics
    else (if same_bytes target (codes "/healthz") then Page pages.Health
    else (if same_bytes target (codes "/status.json") then Page pages.Status
    else NotFound))

-- a request by this method for this target
unfoldable pub meaning : List ℕ → List ℕ → HttpRequest
meaning method target = if same_bytes method (codes "GET") then page_of target else NotAllowed

abbrev pub status_line : HttpStatus → List ℕ
status_line statuses.Ok = codes "200 OK"
status_line statuses.BadRequest = codes "400 Bad Request"
status_line statuses.NotFound = codes "404 Not Found"
status_line statuses.NotAllowed = codes "405 Method Not Allowed\r\nAllow: GET"
status_line statuses.TooLarge = codes "431 Request Header Fields Too Large"
status_line statuses.Unavailable = codes "503 Service Unavailable"

abbrev pub media_name : MediaType → List ℕ
media_name media.Plain = codes "text/plain; charset=utf-8"
media_name media.Metrics = codes "text/plain; version=0.0.4; charset=utf-8"
media_name media.Json = codes "application/json"

-- the head of a response whose body has this length
unfoldable pub head_text : List ℕ → List ℕ → ℕ → List ℕ
head_text line kind size =
    codes "HTTP/1.1 " ++ line
    ++ codes "\r\nContent-Type: " ++ kind
    ++ codes "\r\nContent-Length: " ++ decimal size
    ++ codes "\r\nConnection: close\r\n\r\n"

-- a response with this body, which ends its connection
unfoldable pub response_text : HttpStatus → MediaType → List ℕ → List ℕ
response_text status kind body = head_text (status_line status) (media_name kind) (length body) ++ body
