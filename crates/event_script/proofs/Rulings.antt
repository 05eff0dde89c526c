-- What the rules say of single lines, computed.
use Rattle.std.proofs.Common.{◌≡◌, None, Some, [], codes, refl}
use Rattle.stat_defs.specs.declared.events.Event.TheVariants.{SetText, OpenScope, Release}
use Rattle.event_script.specs.EventIn.{event_in}

pub text_empty : event_in (codes "text l n ") ≡ Some (SetText (codes "l") (codes "n") [])
text_empty = refl

pub text_no_space : event_in (codes "text l n") ≡ None
text_no_space = refl

pub text_spaces : event_in (codes "text l n  a b ") ≡ Some (SetText (codes "l") (codes "n") (codes " a b "))
text_spaces = refl

pub open_dash : event_in (codes "open l -") ≡ Some (OpenScope (codes "l") [])
open_dash = refl

pub open_dash_dot : event_in (codes "open l -.") ≡ Some (OpenScope (codes "l") [])
open_dash_dot = refl

pub open_dash_dots : event_in (codes "open l -..") ≡ Some (OpenScope (codes "l") (codes "-."))
open_dash_dots = refl

pub open_dots : event_in (codes "open l a..") ≡ Some (OpenScope (codes "l") (codes "a."))
open_dots = refl

pub release : event_in (codes "release r") ≡ Some (Release (codes "r"))
release = refl
