-- What needs a name, in the order of the text.
use Rattle.std.specs.Prelude.{ℕ, ◌==◌, ◌&&◌, ◌||◌, not, if◌then◌else◌, Bool, false, List, slice_get, Option, Some, None, option_to_list}
use Rattle.std.specs.List.{filter_map, flat_map, enumerate_from}
use Rattle.yettuvam_wgsl_counts.specs.Locals.{Expressions, stored_local}
use Rattle.yettuvam_wgsl_counts.specs.Times.{times_at, is_never}
use Rattle.yettuvam_wgsl_counts.specs.declared.locals.Declared.{Declared}
use Rattle.yettuvam_wgsl_counts.specs.declared.locals.Declared.TheVariants.{At, AtTop}
use Rattle.yettuvam_wgsl_lines.specs.Groups.{is_set}
use Rattle.yettuvam_wgsl_lines.specs.Line.{LineValue, Lines, is_emitted}
use Rattle.yettuvam_wgsl_uses.specs.Facts.{number_at}
use Rattle.yettuvam_wgsl_uses.specs.Uses.{Uses}
use Rattle.yettuvam_wgsl_requests.specs.declared.requests.Request.{Request}
use Rattle.yettuvam_wgsl_requests.specs.declared.requests.Subject.{Subject}
use Rattle.yettuvam_wgsl_requests.specs.declared.requests.Subject.TheVariants.{Local, Value}

abbrev pub request : Subject → ℕ → Request
request s g = record { subject = s; group = g }

-- ---- before the first statement

abbrev pub top_request : ℕ → Declared → Option Request
top_request place AtTop = Some (request (Local place) 0)
top_request place _ = None

abbrev pub top_requests : List Declared → List Request
top_requests ds = filter_map (λ p. top_request p.0 p.1) (enumerate_from 0 ds)

-- ---- lines

abbrev pub is_at : Option Declared → ℕ → Bool
is_at (Some (At place)) at = place == at
is_at _ at = false

abbrev pub is_declared_at : List Declared → ℕ → ℕ → Bool
is_declared_at ds local at = is_at (slice_get ds local) at

abbrev pub local_request_by : Option ℕ → Uses → LineValue → ℕ → Option Request
local_request_by None u l g = None
local_request_by (Some local) u l g = if is_declared_at u.locals local l.at then Some (request (Local local) g) else None

-- the local variable that a line declares
abbrev pub local_request : Uses → Expressions → LineValue → ℕ → Option Request
local_request u es l g = local_request_by (stored_local es l) u l g

-- a result is declared if it isn't part of a text, and is used or has a name
abbrev pub is_kept : Uses → LineValue → ℕ → Bool
is_kept u l h = not (is_set u.merged h) && (l.is_named || not (is_never (times_at u.texts h)))

abbrev pub declares : Uses → LineValue → ℕ → Bool
declares u l h = if is_emitted l then is_set u.is_let h else is_kept u l h

abbrev pub value_request_by : Option ℕ → Uses → LineValue → ℕ → Option Request
value_request_by None u l g = None
value_request_by (Some h) u l g = if declares u l h then Some (request (Value h) g) else None

abbrev pub value_request : Uses → LineValue → ℕ → Option Request
value_request u l g = value_request_by l.made u l g

abbrev pub first_of : Option Request → Option Request → Option Request
first_of None o = o
first_of (Some r) o = Some r

-- the name that a line declares
abbrev pub line_request : Uses → Expressions → LineValue → Option Request
line_request u es l =
    let g = number_at u.groups l.number in
    first_of (local_request u es l g) (value_request u l g)

abbrev pub line_requests : Uses → Expressions → Lines → List Request
line_requests u es ls = flat_map (λ l. option_to_list (line_request u es l)) ls
