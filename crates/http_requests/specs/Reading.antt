-- What is known of a head from the bytes that have come.
use Rattle.std.specs.Prelude.{◌≡◌, ◌<◌, ◌≤◌, ℕ, Bool, false, List, ◌++◌, length, take, drop, slice_range, if◌then◌else◌, Some, None}
use Rattle.httparse.specs.Grammar.{RequestHead}
use Rattle.httparse.specs.Spans.{IsRequestAt, IsRequestWithin}
use Rattle.httparse.specs.declared.spans.HeaderSpan.{HeaderSpan}
use Rattle.httparse.specs.declared.spans.RequestSpans.{RequestSpans}
use Rattle.request_session.specs.Turns.{MayFollow}
use Rattle.http_requests.specs.declared.heads.Heading.{Heading}
use Rattle.http_requests.specs.declared.heads.Heading.TheVariants as headings
use Rattle.http_requests.specs.declared.framing.Frame.{Frame}
use Rattle.http_requests.specs.declared.framing.Reading.{Reading}
use Rattle.http_requests.specs.declared.framing.Reading.TheVariants as readings
use Rattle.http_requests.specs.Requests.{IsHead, HasNoHead, BeginsWith, asked, too_long_cut, unreadable_cut}

-- where a head stands
abbrev pub front : List ℕ → List ℕ
front bytes = take 8192 bytes

-- whatever bytes follow, they begin with this head; none does; or they may yet
abbrev pub Heads : List ℕ → Bool → List HeaderSpan → Heading → Type 0
Heads bytes ended fields (headings.Found spans) =
    IsRequestWithin (front bytes) fields spans
    × ((head : RequestHead) × IsRequestAt (front bytes) fields spans head × ((more : List ℕ) → IsHead (bytes ++ more) head (drop spans.len bytes ++ more)))
Heads bytes ended fields headings.Unreadable = (more : List ℕ) → MayFollow ended more → HasNoHead (bytes ++ more)
Heads bytes ended fields headings.Unfinished = (ended ≡ false) × (length bytes < 8192)

-- the request that the bytes begin with, whatever follows
abbrev pub Asks : List ℕ → RequestHead → Frame → Type 0
Asks bytes head frame =
    (frame.head.len ≤ frame.end) × (frame.end ≤ length bytes)
    × ((more : List ℕ) → BeginsWith (bytes ++ more) (asked head (slice_range bytes frame.head.len frame.end), if frame.closes then None else Some (drop frame.end bytes ++ more)))

-- what the fields of this head make of the bytes
abbrev pub Frames : List ℕ → Bool → RequestSpans → RequestHead → Reading → Type 0
Frames bytes ended spans head readings.Unreadable = (more : List ℕ) → MayFollow ended more → BeginsWith (bytes ++ more) unreadable_cut
Frames bytes ended spans head readings.TooLong = (more : List ℕ) → BeginsWith (bytes ++ more) too_long_cut
Frames bytes ended spans head (readings.Asked frame) = (frame.head ≡ spans) × Asks bytes head frame
Frames bytes ended spans head (readings.Waits need) = (ended ≡ false) × (length bytes < need) × (need ≤ 308192)

-- what the bytes that have come begin with
abbrev pub Reads : List ℕ → Bool → List HeaderSpan → Reading → Type 0
Reads bytes ended fields readings.Unreadable = (more : List ℕ) → MayFollow ended more → BeginsWith (bytes ++ more) unreadable_cut
Reads bytes ended fields readings.TooLong = (more : List ℕ) → BeginsWith (bytes ++ more) too_long_cut
Reads bytes ended fields (readings.Asked frame) =
    IsRequestWithin (front bytes) fields frame.head × ((head : RequestHead) × IsRequestAt (front bytes) fields frame.head head × Asks bytes head frame)
Reads bytes ended fields (readings.Waits need) = (ended ≡ false) × (length bytes < need) × (need ≤ 308192)
