pub mod SectionLaws
pub mod KindLaws
pub mod LengthLaws
pub mod RoomLaws
