-- The bytes of responses.
use Rattle.std.specs.Prelude.{ℕ, List, [], ◌∷◌, ◌++◌, codes, length, decimal, Option, Some, None}
use Rattle.http_responses.specs.declared.method.Method.{Method}
use Rattle.http_responses.specs.declared.method.Method.TheVariants as methods
use Rattle.http_responses.specs.declared.status.StatusCode.{StatusCode}
use Rattle.http_responses.specs.declared.status.StatusCode.TheVariants as statuses

abbrev pub method_word : Method → List ℕ
method_word methods.Get = codes "GET"
method_word methods.Post = codes "POST"

abbrev pub status_number : StatusCode → ℕ
status_number statuses.Ok = 200
status_number statuses.BadRequest = 400
status_number statuses.NotFound = 404
status_number statuses.MethodNotAllowed = 405
status_number statuses.Conflict = 409
status_number statuses.PayloadTooLarge = 413
status_number statuses.UnprocessableEntity = 422
status_number statuses.ServiceUnavailable = 503
status_number statuses.InsufficientStorage = 507

abbrev pub reason_phrase : StatusCode → List ℕ
reason_phrase statuses.Ok = codes "OK"
reason_phrase statuses.BadRequest = codes "Bad Request"
reason_phrase statuses.NotFound = codes "Not Found"
reason_phrase statuses.MethodNotAllowed = codes "Method Not Allowed"
reason_phrase statuses.Conflict = codes "Conflict"
reason_phrase statuses.PayloadTooLarge = codes "Payload Too Large"
reason_phrase statuses.UnprocessableEntity = codes "Unprocessable Entity"
reason_phrase statuses.ServiceUnavailable = codes "Service Unavailable"
reason_phrase statuses.InsufficientStorage = codes "Insufficient Storage"

-- CR and LF
abbrev pub line_end : List ℕ
line_end = 13 ∷ 10 ∷ []

abbrev pub status_line : StatusCode → List ℕ
status_line status = codes "HTTP/1.1 " ++ decimal (status_number status) ++ codes " " ++ reason_phrase status ++ line_end

abbrev pub field_line : List ℕ → List ℕ → List ℕ
field_line name value = name ++ codes ": " ++ value ++ line_end

-- the method that is allowed, where another was asked for
abbrev pub allow_line : Option Method → List ℕ
allow_line None = []
allow_line (Some method) = field_line (codes "Allow") (method_word method)

-- the status, the fields, an empty line and the body
abbrev pub response_bytes : StatusCode → Option Method → List ℕ → List ℕ
response_bytes status allow body =
    status_line status ++ allow_line allow ++ field_line (codes "Content-Type") (codes "application/json")
    ++ field_line (codes "Content-Length") (decimal (length body)) ++ line_end ++ body

-- an object with the status alone
abbrev pub error_body : StatusCode → List ℕ
error_body status = codes "{\"error\":" ++ decimal (status_number status) ++ codes "}"
