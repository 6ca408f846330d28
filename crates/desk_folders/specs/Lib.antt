pub mod Contents
pub mod ContentsLaws
pub mod InMemory
