-- What a failed write to a page means.
use Rattle.std.specs.Prelude.{Bool, true, false}
use Rattle.cite_requests.specs.declared.error.CiteError.{CiteError}
use Rattle.cite_requests.specs.declared.error.CiteError.TheVariants as errors

-- the error of a page that has room left: where a write failed, there was no memory
abbrev pub with_room : CiteError → CiteError
with_room (errors.Write fault) = errors.Memory
with_room error = error

-- the error of a page, which may have room left
abbrev pub page_error : Bool → CiteError → CiteError
page_error true error = with_room error
page_error false error = error
