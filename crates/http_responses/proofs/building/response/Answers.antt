use Rattle.http_responses.proofs.Joined.{joined}
use Rattle.http_responses.proofs.building.response.Goals as goal

pub returns : goal.returns
returns c =
    joined _ _ _ _ _ _ _ _ _ _ _ _ _ c.new-out.ensures.items c.in_ok-add_status.ensures c.in_ok-add_allowed.ensures c.in_ok-add_field.ensures c.in_ok-add_length.ensures
    c.in_ok-extend_from_slice.ensures.items c.in_ok-extend_from_slice-2.ensures.items
